-- What is told of a refused source: the name of the cause, and the line.
use Rattle.std.specs.Prelude.{ℕ, List, codes}
use Rattle.lvdc_source.specs.declared.fault.SourceFault.{SourceFault}
use Rattle.lvdc_source.specs.declared.fault.SourceFault.TheVariants.{NoMemory, LineTooLong, BadLabel, UnknownOperation, ExecuteModified, BadDirective, BadOperand, MissingEnd, AfterEnd}

-- the name of a cause
abbrev pub name_of : SourceFault → List ℕ
name_of NoMemory = codes "NoMemory"
name_of (LineTooLong line) = codes "LineTooLong"
name_of (BadLabel line) = codes "BadLabel"
name_of (UnknownOperation line) = codes "UnknownOperation"
name_of (ExecuteModified line) = codes "ExecuteModified"
name_of (BadDirective line) = codes "BadDirective"
name_of (BadOperand line) = codes "BadOperand"
name_of (MissingEnd line) = codes "MissingEnd"
name_of (AfterEnd line) = codes "AfterEnd"

-- the line that a cause names; the want of memory names none
abbrev pub line_of : SourceFault → ℕ
line_of NoMemory = 0
line_of (LineTooLong line) = line
line_of (BadLabel line) = line
line_of (UnknownOperation line) = line
line_of (ExecuteModified line) = line
line_of (BadDirective line) = line
line_of (BadOperand line) = line
line_of (MissingEnd line) = line
line_of (AfterEnd line) = line
