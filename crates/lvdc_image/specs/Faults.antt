-- What is told of a refused image: the name of the cause, and the line.
use Rattle.std.specs.Prelude.{ℕ, List, codes}
use Rattle.lvdc_image.specs.declared.fault.ImageFault.{ImageFault}
use Rattle.lvdc_image.specs.declared.fault.ImageFault.TheVariants.{NoMemory, BadImageLine, AddressOrder, BadWord}

-- the name of a cause
abbrev pub name_of : ImageFault → List ℕ
name_of NoMemory = codes "NoMemory"
name_of (BadImageLine line) = codes "BadImageLine"
name_of (AddressOrder line) = codes "AddressOrder"
name_of (BadWord line) = codes "BadWord"

-- the line that a cause names; the want of memory names none
abbrev pub line_of : ImageFault → ℕ
line_of NoMemory = 0
line_of (BadImageLine line) = line
line_of (AddressOrder line) = line
line_of (BadWord line) = line
