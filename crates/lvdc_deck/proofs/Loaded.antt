-- The image of a deck that begins with a source is that of the source's assembly.
use Rattle.std.proofs.Common.{◌≡◌, ◌+◌, ℕ, Bool, List, [], ◌∷◌, take, drop, Option, None, Some, Result, Ok, Err, refl, subst}
use Rattle.std.specs.Prelude.{option_map}
use Rattle.lvdc_map.specs.Hop.{HopConstant}
use Rattle.lvdc_text.specs.Lines.{lines_of, part_of, NumberedLine, numbered}
use Rattle.lvdc_text.specs.declared.cutting.Line.{Line}
use Rattle.lvdc_port.specs.Device.{Device}
use Rattle.lvdc_asm.specs.Assembly.{Assembled, assembly_of}
use Rattle.lvdc_asm.specs.declared.fault.AsmFault.{AsmFault}
use Rattle.lvdc_deck.specs.declared.deck.Deck.{Deck}
use Rattle.lvdc_deck.specs.declared.fault.DeckFault.{DeckFault}
use Rattle.lvdc_deck.specs.declared.program.DeckProgram.TheVariants as programs
use Rattle.lvdc_deck.specs.declared.section.Opening.{Opening}
use Rattle.lvdc_deck.specs.declared.section.Opening.TheVariants as opening
use Rattle.lvdc_deck.specs.declared.section.ProgramKind.TheVariants as kinds
use Rattle.lvdc_deck.specs.Sections.{nothing_said}
use Rattle.lvdc_deck.specs.Deck.{and_then, Told, told_from, count_in, by_assembly, program_of, start_in, image_in, deck_with, made_of, with_program, end_of, by_end, opening_of, by_opening, deck_from, deck_of}
use Rattle.lvdc_deck.specs.Loading.{source_by, source_from, source_in, IsImageBy, IsImageOf}

-- the deck of an assembled source
by_start : (assembled : Assembled) (told : Told) (count : ℕ) (deck : Deck) (start : Result HopConstant DeckFault) →
    and_then start (λ start. Ok (deck_with (image_in (programs.Source assembled)) start told count)) ≡ Ok deck → IsImageBy deck.image (Ok assembled)
by_start assembled told count deck (Ok start) is = cc
by_start assembled told count deck (Err fault) is = absurd (cc)

by_assembled : (assembly : Result Assembled AsmFault) (told : Told) (count : ℕ) (deck : Deck) →
    and_then (by_assembly assembly) (λ program. made_of program told count) ≡ Ok deck → IsImageBy deck.image assembly
by_assembled (Ok assembled) told count deck is = by_start assembled told count deck (start_in (programs.Source assembled) told.sections.start) is
by_assembled (Err fault) told count deck is = absurd (cc)

by_count : (bytes : List ℕ) (text : List Line) (told : Told) (deck : Deck) (count : Result ℕ DeckFault) →
    and_then count (λ count. and_then (program_of kinds.Source bytes text) (λ program. made_of program told count)) ≡ Ok deck →
    IsImageOf deck.image (numbered bytes text)
by_count bytes text told deck (Ok count) is = by_assembled (assembly_of (numbered bytes text)) told count deck is
by_count bytes text told deck (Err fault) is = absurd (cc)

by_told : (bytes : List ℕ) (text : List Line) (debugging : Bool) (next : ℕ) (deck : Deck) (told : Result Told DeckFault) →
    and_then told (λ told. with_program kinds.Source bytes text debugging next told) ≡ Ok deck → IsImageOf deck.image (numbered bytes text)
by_told bytes text debugging next deck (Ok told) is = by_count bytes text told deck (count_in debugging next told.sections) is
by_told bytes text debugging next deck (Err fault) is = absurd (cc)

by_place : (devices : List Device) (debugging : Bool) (bytes : List ℕ) (next number : ℕ) (lines text : List Line) (deck : Deck) (at : Option ℕ) →
    by_end kinds.Source devices debugging bytes next number lines at ≡ Ok deck → option_map (λ (n : ℕ). take (n + 1) lines) at ≡ Some text →
    IsImageOf deck.image (numbered bytes text)
by_place devices debugging bytes next number lines text deck (Some at) is begins =
    let here : take (at + 1) lines ≡ text = cc in
    subst (λ (ls : List Line). IsImageOf deck.image (numbered bytes ls)) here
    (by_told bytes (take (at + 1) lines) debugging next deck (told_from devices bytes (nothing_said kinds.Source) (drop (at + 1) lines)) is)
by_place devices debugging bytes next number lines text deck None is begins = absurd (cc)

by_first : (devices : List Device) (debugging : Bool) (bytes : List ℕ) (next number : ℕ) (lines text : List Line) (deck : Deck) (what : Opening)
    (later : Result Deck DeckFault) (source : Option (List Line)) →
    (later ≡ Ok deck → source ≡ Some text → IsImageOf deck.image (numbered bytes text)) →
    by_opening devices debugging bytes next number lines what later ≡ Ok deck → source_by bytes lines what source ≡ Some text →
    IsImageOf deck.image (numbered bytes text)
by_first devices debugging bytes next number lines text deck opening.Long later source more is begins = absurd (cc)
by_first devices debugging bytes next number lines text deck opening.Skipped later source more is begins = more is begins
by_first devices debugging bytes next number lines text deck (opening.Program kinds.Image) later source more is begins = absurd (cc)
by_first devices debugging bytes next number lines text deck (opening.Program kinds.Source) later source more is begins =
    by_place devices debugging bytes next number lines text deck (end_of bytes lines) is begins
by_first devices debugging bytes next number lines text deck opening.Other later source more is begins = absurd (cc)

loaded_from : (devices : List Device) (debugging : Bool) (bytes : List ℕ) (next : ℕ) (lines text : List Line) (deck : Deck) →
    deck_from devices debugging bytes next lines ≡ Ok deck → source_from bytes lines ≡ Some text → IsImageOf deck.image (numbered bytes text)
unfolding deck_from source_from
loaded_from devices debugging bytes next [] text deck is begins = absurd (cc)
loaded_from devices debugging bytes next (line ∷ lines) text deck is begins =
    by_first devices debugging bytes next line.number lines text deck (opening_of (part_of bytes line)) (deck_from devices debugging bytes next lines)
    (source_from bytes lines) (loaded_from devices debugging bytes next lines text deck) is begins

by_source : (bytes : List ℕ) (lines : Option (List Line)) (source : List NumberedLine) (deck : Deck) →
    ((text : List Line) → lines ≡ Some text → IsImageOf deck.image (numbered bytes text)) → option_map (numbered bytes) lines ≡ Some source →
    IsImageOf deck.image source
by_source bytes (Some text) source deck loads is =
    let here : numbered bytes text ≡ source = cc in subst (IsImageOf deck.image) here (loads text refl)
by_source bytes None source deck loads is = absurd (cc)

pub deck-loads : (bytes : List ℕ) (devices : List Device) (debugging : Bool) (deck : Deck) (source : List NumberedLine) →
    deck_of bytes devices debugging ≡ Ok deck → source_in bytes ≡ Some source → IsImageOf deck.image source
deck-loads bytes devices debugging deck source is begins =
    by_source bytes (source_from bytes (lines_of bytes)) source deck
    (λ text found. loaded_from devices debugging bytes _ (lines_of bytes) text deck is found) begins
