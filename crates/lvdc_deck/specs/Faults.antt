-- What is told of a refused deck: the name of the cause, and the line.
use Rattle.std.specs.Prelude.{ℕ, List, codes}
use Rattle.lvdc_image.specs.Faults as image
use Rattle.lvdc_asm.specs.Faults as asm
use Rattle.lvdc_deck.specs.declared.fault.DeckFault.{DeckFault}
use Rattle.lvdc_deck.specs.declared.fault.DeckFault.TheVariants.{NoMemory, BadSection, BadLine, NoProgram, NoDevice, TooManyEvents, CountTooLarge, Image, Asm}

-- the name of a cause; that of an image or of a source is told by its own
abbrev pub name_of : DeckFault → List ℕ
name_of NoMemory = codes "NoMemory"
name_of (BadSection line) = codes "BadSection"
name_of (BadLine line) = codes "BadLine"
name_of (NoProgram line) = codes "NoProgram"
name_of (NoDevice line) = codes "NoDevice"
name_of (TooManyEvents line) = codes "TooManyEvents"
name_of (CountTooLarge line) = codes "CountTooLarge"
name_of (Image fault) = image.name_of fault
name_of (Asm fault) = asm.name_of fault

-- the line that a cause names; the want of memory names none
abbrev pub line_of : DeckFault → ℕ
line_of NoMemory = 0
line_of (BadSection line) = line
line_of (BadLine line) = line
line_of (NoProgram line) = line
line_of (NoDevice line) = line
line_of (TooManyEvents line) = line
line_of (CountTooLarge line) = line
line_of (Image fault) = image.line_of fault
line_of (Asm fault) = asm.line_of fault
