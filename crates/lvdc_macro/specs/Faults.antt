-- What is told of a source that can't be expanded: the name of the cause, and the line.
use Rattle.std.specs.Prelude.{ℕ, List, codes}
use Rattle.lvdc_macro.specs.declared.fault.MacroFault.{MacroFault}
use Rattle.lvdc_macro.specs.declared.fault.MacroFault.TheVariants.{NoMemory, BadMacro, TooDeep, TooManyCalls, ExpansionTooLong}

-- the name of a cause
abbrev pub name_of : MacroFault → List ℕ
name_of NoMemory = codes "NoMemory"
name_of (BadMacro line) = codes "BadMacro"
name_of (TooDeep line) = codes "TooDeep"
name_of (TooManyCalls line) = codes "TooManyCalls"
name_of (ExpansionTooLong line) = codes "ExpansionTooLong"

-- the source line that a cause names; the want of memory names none
abbrev pub line_of : MacroFault → ℕ
line_of NoMemory = 0
line_of (BadMacro line) = line
line_of (TooDeep line) = line
line_of (TooManyCalls line) = line
line_of (ExpansionTooLong line) = line
