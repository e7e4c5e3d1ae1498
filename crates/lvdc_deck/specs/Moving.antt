-- A source whose lines stand so many lines further on: its items and its refusals name lines that are so many further on.
use Rattle.std.specs.Prelude.{ℕ, ◌+◌, map, Result, Ok, Err}
use Rattle.lvdc_text.specs.Lines.{NumberedLine}
use Rattle.lvdc_source.specs.declared.item.Item.{Item}
use Rattle.lvdc_source.specs.declared.fault.SourceFault.{SourceFault}
use Rattle.lvdc_source.specs.declared.fault.SourceFault.TheVariants as source
use Rattle.lvdc_place.specs.declared.fault.PlaceFault.{PlaceFault}
use Rattle.lvdc_place.specs.declared.fault.PlaceFault.TheVariants as place
use Rattle.lvdc_asm.specs.Assembly.{Assembled}
use Rattle.lvdc_asm.specs.declared.fault.AsmFault.{AsmFault}
use Rattle.lvdc_asm.specs.declared.fault.AsmFault.TheVariants.{NoMemory, Source, Place, DuplicateName, UndefinedName, OutOfRange, OutOfSector}

-- ---- lines, and the items on them

-- a line so many lines further on
abbrev pub line_moved : ℕ → NumberedLine → NumberedLine
line_moved count line = record line { number = count + line.number }

-- what a line says that stands so many lines further on
abbrev pub item_moved : ℕ → Item → Item
item_moved count item = record item { line = count + item.line }

-- ---- refusals: the cause stays, and the want of memory names no line

-- a refusal by the grammar
abbrev pub source_moved : ℕ → SourceFault → SourceFault
source_moved count source.NoMemory = source.NoMemory
source_moved count (source.LineTooLong line) = source.LineTooLong (count + line)
source_moved count (source.BadLabel line) = source.BadLabel (count + line)
source_moved count (source.UnknownOperation line) = source.UnknownOperation (count + line)
source_moved count (source.ExecuteModified line) = source.ExecuteModified (count + line)
source_moved count (source.BadDirective line) = source.BadDirective (count + line)
source_moved count (source.BadOperand line) = source.BadOperand (count + line)
source_moved count (source.MissingEnd line) = source.MissingEnd (count + line)
source_moved count (source.AfterEnd line) = source.AfterEnd (count + line)

-- a refusal by the placement
abbrev pub place_moved : ℕ → PlaceFault → PlaceFault
place_moved count place.NoMemory = place.NoMemory
place_moved count (place.NoRoom line) = place.NoRoom (count + line)
place_moved count (place.Overlap line) = place.Overlap (count + line)

-- a refusal of a source
abbrev pub fault_moved : ℕ → AsmFault → AsmFault
fault_moved count NoMemory = NoMemory
fault_moved count (Source fault) = Source (source_moved count fault)
fault_moved count (Place fault) = Place (place_moved count fault)
fault_moved count (DuplicateName line) = DuplicateName (count + line)
fault_moved count (UndefinedName line) = UndefinedName (count + line)
fault_moved count (OutOfRange line) = OutOfRange (count + line)
fault_moved count (OutOfSector line) = OutOfSector (count + line)

-- ---- the whole

-- an assembly keeps its names, its places, its pooled words and its words
abbrev pub assembly_moved : ℕ → Result Assembled AsmFault → Result Assembled AsmFault
assembly_moved count (Ok assembled) = Ok (record assembled { items = map (item_moved count) assembled.items })
assembly_moved count (Err fault) = Err (fault_moved count fault)
