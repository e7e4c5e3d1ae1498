-- What is told of a refused program: the name of the cause, and the line.
use Rattle.std.specs.Prelude.{ℕ, List, codes}
use Rattle.lvdc_place.specs.declared.fault.PlaceFault.{PlaceFault}
use Rattle.lvdc_place.specs.declared.fault.PlaceFault.TheVariants.{NoMemory, NoRoom, Overlap}

-- the name of a cause
abbrev pub name_of : PlaceFault → List ℕ
name_of NoMemory = codes "NoMemory"
name_of (NoRoom line) = codes "NoRoom"
name_of (Overlap line) = codes "Overlap"

-- the line that a cause names; the want of memory names none
abbrev pub line_of : PlaceFault → ℕ
line_of NoMemory = 0
line_of (NoRoom line) = line
line_of (Overlap line) = line
