-- The commands of a deck stand apart: each ends before the later ones begin, as lines of a text do.
use Rattle.std.proofs.Common.{◌≡◌, ℕ, zero, suc, ◌+◌, ◌-◌, ◌<◌, ◌≤◌, Bool, true, false, List, [], ◌∷◌, take, drop, length, get_or, Option, None, Some, Result, Ok, Err, subst, arith, length-take}
use Rattle.std.specs.Prelude.{◌==◌, AllPairs, if◌then◌else◌}
use Rattle.std.specs.List.{slice_split, AllByRecursion}
use Rattle.std.specs.Str.Lines.{strip_carriage_return}
use Rattle.std.proofs.lemmas.List.Elements.{All-from_recursion}
use Rattle.std.proofs.lemmas.List.Kept.{AllPairs-cons}
use Rattle.lvdc_map.specs.Hop.{HopConstant}
use Rattle.lvdc_text.specs.Lines.{numbered_part, is_line_feed, lines_from, lines_of, part_of, is_long, is_comment}
use Rattle.lvdc_text.specs.declared.cutting.Line.{Line}
use Rattle.lvdc_port.specs.Device.{Device}
use Rattle.lvdc_deck.specs.declared.deck.Deck.{Deck}
use Rattle.lvdc_deck.specs.declared.fault.DeckFault.{DeckFault}
use Rattle.lvdc_deck.specs.declared.fault.DeckFault.TheVariants.{BadLine}
use Rattle.lvdc_deck.specs.declared.program.DeckProgram.{DeckProgram}
use Rattle.lvdc_deck.specs.declared.section.Opening.{Opening}
use Rattle.lvdc_deck.specs.declared.section.Opening.TheVariants as opening
use Rattle.lvdc_deck.specs.declared.section.ProgramKind.{ProgramKind}
use Rattle.lvdc_deck.specs.Sections.{Sections, nothing_said, is_debug, after_line}
use Rattle.lvdc_deck.specs.Deck.{and_then, Told, with_command, commands_from, with_commands, by_debug, told_from, count_in, program_of, image_in, start_in, deck_with, made_of, with_program, end_of, by_end, opening_of, by_opening, deck_from, deck_of}

-- the lines begin after this place
abbrev After : ℕ → List Line → Type 0
After place lines = AllByRecursion (λ (line : Line). place < line.start) lines

-- each line ends before the later ones begin
abbrev Apart : List Line → Type 0
Apart [] = Unit {0}
Apart (line ∷ lines) = After line.end lines × Apart lines

-- ---- the lines of a text

length-either : (cr : Bool) (text : List ℕ) → length (if cr then take (length text - 1) text else text) ≤ length text
length-either true text = omega (arith, length-take (length text - 1) text)
length-either false text = omega arith

stripped_fits : (text : List ℕ) → length (strip_carriage_return text) ≤ length text
stripped_fits text = length-either (get_or text (length text - 1) 0 == 13) text

last-after : (place number start count : ℕ) (empty : Bool) → place < start → After place (if empty then [] else numbered_part number start count ∷ [])
last-after place number start count true later = tt
last-after place number start count false later = (later, tt)

last-apart : (number start count : ℕ) (empty : Bool) → Apart (if empty then [] else numbered_part number start count ∷ [])
last-apart number start count true = tt
last-apart number start count false = (tt, tt)

lines_from-after : (place number start : ℕ) (pieces : List (List ℕ)) → place < start → After place (lines_from number start pieces)
unfolding lines_from
lines_from-after place number start [] later = tt
lines_from-after place number start (piece ∷ []) later = last-after place number start (length piece) (length piece == 0) later
lines_from-after place number start (piece ∷ next ∷ pieces) later =
    (later, lines_from-after place (number + 1) (start + length piece + 1) (next ∷ pieces) (omega (arith, later)))

lines_from-apart : (number start : ℕ) (pieces : List (List ℕ)) → Apart (lines_from number start pieces)
unfolding lines_from
lines_from-apart number start [] = tt
lines_from-apart number start (piece ∷ []) = last-apart number start (length piece) (length piece == 0)
lines_from-apart number start (piece ∷ next ∷ pieces) = (
  lines_from-after (start + length (strip_carriage_return piece)) (number + 1) (start + length piece + 1) (next ∷ pieces) (omega (arith, stripped_fits piece)),
  lines_from-apart (number + 1) (start + length piece + 1) (next ∷ pieces),
)

drop-apart : (count : ℕ) (lines : List Line) → Apart lines → Apart (drop count lines)
drop-apart zero lines apart = apart
drop-apart (suc count) [] apart = tt
drop-apart (suc count) (line ∷ lines) apart = drop-apart count lines apart.1

-- ---- commands

-- these commands are some of the lines, in their order
abbrev Keeps : List Line → Result (List Line) DeckFault → Type 0
Keeps lines (Ok commands) = ((place : ℕ) → After place lines → After place commands) × (Apart lines → Apart commands)
Keeps lines (Err fault) = Unit {0}

keeps-with : (line : Line) (lines : List Line) (later : Result (List Line) DeckFault) → Keeps lines later → Keeps (line ∷ lines) (with_command line later)
keeps-with line lines (Ok commands) keeps = (λ place after. (after.0, keeps.0 place after.1), λ apart. (keeps.0 line.end apart.0, keeps.1 apart.1))
keeps-with line lines (Err fault) keeps = tt

keeps-without : (line : Line) (lines : List Line) (later : Result (List Line) DeckFault) → Keeps lines later → Keeps (line ∷ lines) later
keeps-without line lines (Ok commands) keeps = (λ place after. keeps.0 place after.1, λ apart. keeps.1 apart.1)
keeps-without line lines (Err fault) keeps = tt

keeps-by : (line : Line) (lines : List Line) (later : Result (List Line) DeckFault) (long skipped : Bool) → Keeps lines later
    → Keeps (line ∷ lines) (if long then Err (BadLine line.number) else (if skipped then later else with_command line later))
keeps-by line lines later true skipped keeps = tt
keeps-by line lines later false true keeps = keeps-without line lines later keeps
keeps-by line lines later false false keeps = keeps-with line lines later keeps

commands-keep : (bytes : List ℕ) (lines : List Line) → Keeps lines (commands_from bytes lines)
unfolding commands_from
commands-keep bytes [] = (λ place after. tt, λ apart. tt)
commands-keep bytes (line ∷ lines) =
    keeps-by line lines (commands_from bytes lines) (is_long (part_of bytes line)) (is_comment (part_of bytes line)) (commands-keep bytes lines)

-- ---- what the lines after the program tell

abbrev TellsApart : Result Told DeckFault → Type 0
TellsApart (Ok told) = Apart told.commands
TellsApart (Err fault) = Unit {0}

with-apart : (s : Sections) (lines : List Line) (commands : Result (List Line) DeckFault) → Keeps lines commands → Apart lines → TellsApart (with_commands s commands)
with-apart s lines (Ok commands) keeps apart = keeps.1 apart
with-apart s lines (Err fault) keeps apart = tt

by-debug : (bytes : List ℕ) (lines : List Line) (s : Sections) (later : Result Told DeckFault) (debug : Bool) → Apart lines → TellsApart later
    → TellsApart (if debug then with_commands s (commands_from bytes lines) else later)
by-debug bytes lines s later true apart tells = with-apart s lines (commands_from bytes lines) (commands-keep bytes lines) apart
by-debug bytes lines s later false apart tells = tells

by-after : (devices : List Device) (bytes : List ℕ) (lines : List Line) (after : Result Sections DeckFault) → Apart lines
    → ((s : Sections) → TellsApart (told_from devices bytes s lines))
    → TellsApart (and_then after (λ s. by_debug s (commands_from bytes lines) (told_from devices bytes s lines)))
by-after devices bytes lines (Ok s) apart tells = by-debug bytes lines s (told_from devices bytes s lines) (is_debug s.section) apart (tells s)
by-after devices bytes lines (Err fault) apart tells = tt

told-apart : (devices : List Device) (bytes : List ℕ) (s : Sections) (lines : List Line) → Apart lines → TellsApart (told_from devices bytes s lines)
unfolding told_from
told-apart devices bytes s [] apart = tt
told-apart devices bytes s (line ∷ lines) apart =
    by-after devices bytes lines (after_line devices s line.number (part_of bytes line)) apart.1 (λ t. told-apart devices bytes t lines apart.1)

-- ---- the deck

abbrev HasApart : Result Deck DeckFault → Type 0
HasApart (Ok deck) = Apart deck.commands
HasApart (Err fault) = Unit {0}

by-start : (program : DeckProgram) (told : Told) (count : ℕ) (start : Result HopConstant DeckFault) → Apart told.commands
    → HasApart (and_then start (λ start. Ok (deck_with (image_in program) start told count)))
by-start program told count (Ok start) apart = apart
by-start program told count (Err fault) apart = tt

by-program : (told : Told) (count : ℕ) (program : Result DeckProgram DeckFault) → Apart told.commands → HasApart (and_then program (λ program. made_of program told count))
by-program told count (Ok program) apart = by-start program told count (start_in program told.sections.start) apart
by-program told count (Err fault) apart = tt

by-count : (kind : ProgramKind) (bytes : List ℕ) (text : List Line) (told : Told) (count : Result ℕ DeckFault) → Apart told.commands
    → HasApart (and_then count (λ count. and_then (program_of kind bytes text) (λ program. made_of program told count)))
by-count kind bytes text told (Ok count) apart = by-program told count (program_of kind bytes text) apart
by-count kind bytes text told (Err fault) apart = tt

by-told : (kind : ProgramKind) (bytes : List ℕ) (text : List Line) (debugging : Bool) (next : ℕ) (told : Result Told DeckFault) → TellsApart told
    → HasApart (and_then told (λ told. with_program kind bytes text debugging next told))
by-told kind bytes text debugging next (Ok told) apart = by-count kind bytes text told (count_in debugging next told.sections) apart
by-told kind bytes text debugging next (Err fault) apart = tt

by-place : (kind : ProgramKind) (devices : List Device) (debugging : Bool) (bytes : List ℕ) (next number : ℕ) (lines : List Line) (at : Option ℕ) → Apart lines
    → HasApart (by_end kind devices debugging bytes next number lines at)
by-place kind devices debugging bytes next number lines (Some at) apart =
    by-told kind bytes (take (at + 1) lines) debugging next (told_from devices bytes (nothing_said kind) (drop (at + 1) lines))
    (told-apart devices bytes (nothing_said kind) (drop (at + 1) lines) (drop-apart (at + 1) lines apart))
by-place kind devices debugging bytes next number lines None apart = tt

by-first : (devices : List Device) (debugging : Bool) (bytes : List ℕ) (next number : ℕ) (lines : List Line) (what : Opening) (later : Result Deck DeckFault) → Apart lines
    → HasApart later → HasApart (by_opening devices debugging bytes next number lines what later)
by-first devices debugging bytes next number lines opening.Long later apart has = tt
by-first devices debugging bytes next number lines opening.Skipped later apart has = has
by-first devices debugging bytes next number lines (opening.Program kind) later apart has =
    by-place kind devices debugging bytes next number lines (end_of bytes lines) apart
by-first devices debugging bytes next number lines opening.Other later apart has = tt

deck_from-apart : (devices : List Device) (debugging : Bool) (bytes : List ℕ) (next : ℕ) (lines : List Line) → Apart lines → HasApart (deck_from devices debugging bytes next lines)
unfolding deck_from
deck_from-apart devices debugging bytes next [] apart = tt
deck_from-apart devices debugging bytes next (line ∷ lines) apart =
    by-first devices debugging bytes next line.number lines (opening_of (part_of bytes line)) (deck_from devices debugging bytes next lines) apart.1
    (deck_from-apart devices debugging bytes next lines apart.1)

apart-pairs : (lines : List Line) → Apart lines → AllPairs (λ before after. before.end < after.start) lines
apart-pairs [] apart = λ i j d before within. absurd (omega arith)
apart-pairs (line ∷ lines) apart =
    AllPairs-cons (λ (before after : Line). before.end < after.start) line lines
    (All-from_recursion (λ (after : Line). line.end < after.start) lines apart.0) (apart-pairs lines apart.1)

-- where there is a deck, its commands stand apart
abbrev HasPairs : Result Deck DeckFault → Type 0
HasPairs (Ok deck) = AllPairs (λ (before after : Line). before.end < after.start) deck.commands
HasPairs (Err fault) = Unit {0}

has-pairs : (result : Result Deck DeckFault) (deck : Deck) → HasApart result → result ≡ Ok deck → AllPairs (λ before after. before.end < after.start) deck.commands
has-pairs (Ok found) deck apart is = subst (λ (r : Result Deck DeckFault). HasPairs r) is (apart-pairs found.commands apart)
has-pairs (Err fault) deck apart is = absurd (cc)

pub commands-apart : (bytes : List ℕ) (devices : List Device) (debugging : Bool) (deck : Deck) → deck_of bytes devices debugging ≡ Ok deck
    → AllPairs (λ before after. before.end < after.start) deck.commands
commands-apart bytes devices debugging deck is =
    has-pairs (deck_of bytes devices debugging) deck
    (deck_from-apart devices debugging bytes (length (lines_of bytes) + 1) (lines_of bytes) (lines_from-apart 1 0 (slice_split is_line_feed bytes))) is
