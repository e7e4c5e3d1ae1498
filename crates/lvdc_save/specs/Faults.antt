-- What is told of a refused saved text: the name of the cause, and the line.
use Rattle.std.specs.Prelude.{ℕ, List, codes}
use Rattle.lvdc_save.specs.declared.fault.SaveFault.{SaveFault}
use Rattle.lvdc_save.specs.declared.fault.SaveFault.TheVariants.{NoMemory, BadSave, NoDevice}

-- the name of a cause
abbrev pub name_of : SaveFault → List ℕ
name_of NoMemory = codes "NoMemory"
name_of (BadSave line) = codes "BadSave"
name_of (NoDevice line) = codes "NoDevice"

-- the line that a cause names; the want of memory names none
abbrev pub line_of : SaveFault → ℕ
line_of NoMemory = 0
line_of (BadSave line) = line
line_of (NoDevice line) = line
