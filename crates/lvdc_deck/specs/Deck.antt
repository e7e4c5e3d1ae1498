-- The deck that bytes mean, or its first refusal.
use Rattle.std.specs.Prelude.{ℕ, ◌+◌, Bool, true, false, not, ◌||◌, List, [], ◌∷◌, take, drop, length, codes, if◌then◌else◌, is_some, unwrap_or, Result, Ok, Err}
use Rattle.std.specs.declared.option.Option.{Option}
use Rattle.std.specs.declared.option.Option.TheVariants.{None, Some}
use Rattle.lvdc_map.specs.Banks.{union}
use Rattle.lvdc_map.specs.Hop.{HopConstant, hop_of}
use Rattle.lvdc_text.specs.Headings.{is_word, place_of}
use Rattle.lvdc_text.specs.Lines.{lines_of, part_of, token_texts_of, numbered, is_long, is_comment}
use Rattle.lvdc_text.specs.declared.cutting.Line.{Line}
use Rattle.lvdc_port.specs.Device.{Device}
use Rattle.lvdc_image.specs.Image.{Contents}
use Rattle.lvdc_image.specs.Reading.{image_of}
use Rattle.lvdc_image.specs.declared.fault.ImageFault.{ImageFault}
use Rattle.lvdc_asm.specs.Assembly.{Assembled, assembly_of}
use Rattle.lvdc_asm.specs.Hop.{start_of}
use Rattle.lvdc_asm.specs.Names.{definition_of}
use Rattle.lvdc_asm.specs.declared.fault.AsmFault.{AsmFault}
use Rattle.lvdc_asm.specs.declared.fault.AsmFault.TheVariants.{UndefinedName, OutOfSector}
use Rattle.lvdc_deck.specs.declared.deck.Deck.{Deck}
use Rattle.lvdc_deck.specs.declared.entry.EntryPoint.{EntryPoint}
use Rattle.lvdc_deck.specs.declared.entry.EntryPoint.TheVariants.{Constant, Name}
use Rattle.lvdc_deck.specs.declared.fault.DeckFault.{DeckFault}
use Rattle.lvdc_deck.specs.declared.fault.DeckFault.TheVariants.{BadSection, BadLine, NoProgram, Image, Asm}
use Rattle.lvdc_deck.specs.declared.program.DeckProgram.{DeckProgram}
use Rattle.lvdc_deck.specs.declared.program.DeckProgram.TheVariants as programs
use Rattle.lvdc_deck.specs.declared.section.Opening.{Opening}
use Rattle.lvdc_deck.specs.declared.section.Opening.TheVariants as opening
use Rattle.lvdc_deck.specs.declared.section.ProgramKind.{ProgramKind}
use Rattle.lvdc_deck.specs.declared.section.ProgramKind.TheVariants as kinds
use Rattle.lvdc_deck.specs.Sections.{Sections, nothing_said, is_debug, after_line}

-- goes on with what was read, or stays refused
abbrev pub and_then : {A B : Type 0} → Result A DeckFault → (A → Result B DeckFault) → Result B DeckFault
and_then (Ok a) f = f a
and_then (Err fault) f = Err fault

-- ---- the lines after the program

-- what they say: the sections, and the lines of DEBUG that are commands
pub record Told : Type 0 where
  pub sections : Sections
  pub commands : List Line

-- a command stands before the later ones
abbrev pub with_command : Line → Result (List Line) DeckFault → Result (List Line) DeckFault
with_command line (Ok commands) = Ok (line ∷ commands)
with_command line (Err fault) = Err fault

-- the commands of lines after DEBUG: each line but the blank ones and the comments, whatever it says
unfoldable pub commands_from : List ℕ → List Line → Result (List Line) DeckFault
commands_from bytes [] = Ok []
commands_from bytes (line ∷ lines) =
    if is_long (part_of bytes line) then Err (BadLine line.number)
    else (if is_comment (part_of bytes line) then commands_from bytes lines else with_command line (commands_from bytes lines))

-- these sections, with these commands
abbrev pub with_commands : Sections → Result (List Line) DeckFault → Result Told DeckFault
with_commands s (Ok commands) = Ok (record { sections = s; commands = commands })
with_commands s (Err fault) = Err fault

-- by whether DEBUG is in force: what is told where the later lines are its commands, and where they aren't
abbrev pub by_debug : Sections → Result (List Line) DeckFault → Result Told DeckFault → Result Told DeckFault
by_debug s commands later = if is_debug s.section then with_commands s commands else later

-- what lines tell after these sections
unfoldable pub told_from : List Device → List ℕ → Sections → List Line → Result Told DeckFault
told_from devices bytes s [] = with_commands s (Ok [])
told_from devices bytes s (line ∷ lines) =
    and_then (after_line devices s line.number (part_of bytes line))
    (λ t. by_debug t (commands_from bytes lines) (told_from devices bytes t lines))

-- RUN's count, which must be there, and so must DEBUG where the session of a debugger is asked for
abbrev pub count_by : Bool → ℕ → Option ℕ → Result ℕ DeckFault
count_by true next (Some count) = Ok count
count_by complete next count = Err (BadSection next)

-- the count of these sections, where none is missing
abbrev pub count_in : Bool → ℕ → Sections → Result ℕ DeckFault
count_in debugging next s = count_by (not debugging || is_debug s.section) next s.count

-- ---- the program

-- the place of the line that ends it: the first that is END alone, but for outer blanks
abbrev pub end_of : List ℕ → List Line → Option ℕ
end_of bytes lines = place_of (codes "END") bytes lines

-- the program of an image that was read
abbrev pub by_image : Result Contents ImageFault → Result DeckProgram DeckFault
by_image (Ok contents) = Ok (programs.Image contents)
by_image (Err fault) = Err (Image fault)

-- the same of an assembled source
abbrev pub by_assembly : Result Assembled AsmFault → Result DeckProgram DeckFault
by_assembly (Ok assembled) = Ok (programs.Source assembled)
by_assembly (Err fault) = Err (Asm fault)

-- the lines after the one at this place
abbrev pub lines_after : List Line → Option ℕ → List Line
lines_after lines None = []
lines_after lines (Some at) = drop (at + 1) lines

-- the lines after the program, which ends with the first line END
abbrev pub after_program : List ℕ → List Line → List Line
after_program bytes lines = lines_after lines (end_of bytes lines)

-- the program that these lines are, by its kind
abbrev pub program_of : ProgramKind → List ℕ → List Line → Result DeckProgram DeckFault
program_of kinds.Image bytes text = by_image (image_of (numbered bytes text))
program_of kinds.Source bytes text = by_assembly (assembly_of (numbered bytes text))

-- its image: that of a source has its words alone, as version 1 has
abbrev pub image_in : DeckProgram → Contents
image_in (programs.Image contents) = contents
image_in (programs.Source assembled) = record { words = assembled.words; start = None; banks = 0 }

-- ---- where the run starts

-- the constant of a line of code that START names on this line, by whether a line of the source has that name
abbrev pub constant_by : ℕ → Bool → Option HopConstant → Result HopConstant DeckFault
constant_by number known (Some start) = Ok start
constant_by number true None = Err (Asm (OutOfSector number))
constant_by number false None = Err (Asm (UndefinedName number))

-- the constant of a name; an image has none
abbrev pub constant_of : DeckProgram → ℕ → List ℕ → Result HopConstant DeckFault
constant_of (programs.Image contents) number name = Err (Asm (UndefinedName number))
constant_of (programs.Source assembled) number name =
    constant_by number (is_some (definition_of assembled.plan.names name)) (start_of assembled.plan name)

-- where the run starts: where START says, else where the image says, else at place 0/0/0/0 with data module 0 and sector 1,
-- and both DUP bits
abbrev pub start_in : DeckProgram → Option EntryPoint → Result HopConstant DeckFault
start_in program None = Ok (unwrap_or (image_in program).start (hop_of 0o16))
start_in program (Some (Constant start)) = Ok start
start_in program (Some (Name number name)) = constant_of program number name

-- ---- the whole

-- the deck of a program, of its start, of what the lines after it tell, and of RUN's count
abbrev pub deck_with : Contents → HopConstant → Told → ℕ → Deck
deck_with contents start told count =
    record {
      image = contents;
      start = start;
      banks = union contents.banks told.sections.simplex;
      supplies = told.sections.supplies;
      unplugs = told.sections.unplugs;
      script = told.sections.script;
      orders = told.sections.orders;
      count = count;
      commands = told.commands;
      run_line = told.sections.run_line;
      other_line = told.sections.other_line;
    }

-- the deck of a program and of what the sections told, where START names a line of code or a constant
abbrev pub made_of : DeckProgram → Told → ℕ → Result Deck DeckFault
made_of program told count = and_then (start_in program told.sections.start) (λ start. Ok (deck_with (image_in program) start told count))

-- the program is read only where all sections were read and none is missing
abbrev pub with_program : ProgramKind → List ℕ → List Line → Bool → ℕ → Told → Result Deck DeckFault
with_program kind bytes text debugging next told =
    and_then (count_in debugging next told.sections) (λ count.
    and_then (program_of kind bytes text) (λ program. made_of program told count))

-- from the line IMAGE or SOURCE on: this is its number, these are the lines after it, and next is one more than the last line
abbrev pub by_end : ProgramKind → List Device → Bool → List ℕ → ℕ → ℕ → List Line → Option ℕ → Result Deck DeckFault
by_end kind devices debugging bytes next number lines None = Err (BadSection number)
by_end kind devices debugging bytes next number lines (Some at) =
    and_then (told_from devices bytes (nothing_said kind) (drop (at + 1) lines))
    (λ told. with_program kind bytes (take (at + 1) lines) debugging next told)

-- what the tokens of a line open that isn't skipped
abbrev pub opened_by : List (List ℕ) → Opening
opened_by tokens =
    if is_word (codes "IMAGE") tokens then opening.Program kinds.Image
    else (if is_word (codes "SOURCE") tokens then opening.Program kinds.Source else opening.Other)

-- what a line opens that may be the first
abbrev pub opening_of : List ℕ → Opening
opening_of text =
    if is_long text then opening.Long else (if is_comment text then opening.Skipped else opened_by (token_texts_of text))

-- from a line on that may be the first, by what it opens, and by what the lines after it come to
abbrev pub by_opening : List Device → Bool → List ℕ → ℕ → ℕ → List Line → Opening → Result Deck DeckFault → Result Deck DeckFault
by_opening devices debugging bytes next number lines opening.Long later = Err (BadLine number)
by_opening devices debugging bytes next number lines opening.Skipped later = later
by_opening devices debugging bytes next number lines (opening.Program kind) later =
    by_end kind devices debugging bytes next number lines (end_of bytes lines)
by_opening devices debugging bytes next number lines opening.Other later = Err (NoProgram number)

-- the deck from a line on that may be the first
unfoldable pub deck_from : List Device → Bool → List ℕ → ℕ → List Line → Result Deck DeckFault
deck_from devices debugging bytes next [] = Err (NoProgram next)
deck_from devices debugging bytes next (line ∷ lines) =
    by_opening devices debugging bytes next line.number lines (opening_of (part_of bytes line)) (deck_from devices debugging bytes next lines)

-- the deck that the bytes mean over these devices, where a debugger's session is asked for or not; or its first refusal
abbrev pub deck_of : List ℕ → List Device → Bool → Result Deck DeckFault
deck_of bytes devices debugging = deck_from devices debugging bytes (length (lines_of bytes) + 1) (lines_of bytes)
