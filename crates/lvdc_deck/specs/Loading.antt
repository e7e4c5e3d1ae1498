-- What is loaded for a deck that begins with a source.
use Rattle.std.specs.Prelude.{◌≡◌, ◌+◌, ℕ, List, [], ◌∷◌, take, option_map, Result, Ok, Err}
use Rattle.std.specs.declared.option.Option.{Option}
use Rattle.std.specs.declared.option.Option.TheVariants.{None}
use Rattle.lvdc_text.specs.Lines.{lines_of, texts_of, part_of, NumberedLine, numbered}
use Rattle.lvdc_text.specs.declared.cutting.Line.{Line}
use Rattle.lvdc_image.specs.Image.{Contents}
use Rattle.lvdc_image.specs.Reading.{texts}
use Rattle.lvdc_asm.specs.Assembly.{Assembled, assembly_of}
use Rattle.lvdc_asm.specs.declared.fault.AsmFault.{AsmFault}
use Rattle.lvdc_deck.specs.declared.section.Opening.{Opening}
use Rattle.lvdc_deck.specs.declared.section.Opening.TheVariants as opening
use Rattle.lvdc_deck.specs.declared.section.ProgramKind.TheVariants as kinds
use Rattle.lvdc_deck.specs.Deck.{end_of, opening_of}

-- from a line on that may be the first, by what it opens, and by what the lines after it come to
abbrev pub source_by : List ℕ → List Line → Opening → Option (List Line) → Option (List Line)
source_by bytes lines opening.Skipped later = later
source_by bytes lines (opening.Program kinds.Source) later = option_map (λ at. take (at + 1) lines) (end_of bytes lines)
source_by bytes lines _ later = None

-- the lines after SOURCE up to and with END, where the first of these lines that isn't skipped is SOURCE
unfoldable pub source_from : List ℕ → List Line → Option (List Line)
source_from bytes [] = None
source_from bytes (line ∷ lines) = source_by bytes lines (opening_of (part_of bytes line)) (source_from bytes lines)

-- the lines of the source of a deck, with their numbers in the whole
abbrev pub source_in : List ℕ → Option (List NumberedLine)
source_in bytes = option_map (numbered bytes) (source_from bytes (lines_of bytes))

-- a text of its own has the lines of this source, whatever their numbers are here
abbrev pub HasLines : List ℕ → List NumberedLine → Type 0
HasLines own source = texts_of own ≡ texts source

-- the image has the words of this assembly, and nothing but words
abbrev pub IsImageBy : Contents → Result Assembled AsmFault → Type 0
IsImageBy image (Ok assembled) = image ≡ record { words = assembled.words; start = None; banks = 0 }
IsImageBy image (Err fault) = ⊥

-- it is the image that assembling these lines gives
abbrev pub IsImageOf : Contents → List NumberedLine → Type 0
IsImageOf image lines = IsImageBy image (assembly_of lines)
