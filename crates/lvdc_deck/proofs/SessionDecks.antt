-- A deck that is accepted where DEBUG must be there is accepted where it needn't, and is the same.
use Rattle.std.proofs.Common.{◌≡◌, ℕ, ◌+◌, Bool, true, false, List, [], ◌∷◌, take, drop, length, Option, None, Some, Result, Ok, Err}
use Rattle.lvdc_text.specs.Lines.{lines_of, part_of}
use Rattle.lvdc_text.specs.declared.cutting.Line.{Line}
use Rattle.lvdc_port.specs.Device.{Device}
use Rattle.lvdc_deck.specs.declared.deck.Deck.{Deck}
use Rattle.lvdc_deck.specs.declared.fault.DeckFault.{DeckFault}
use Rattle.lvdc_deck.specs.declared.section.Opening.{Opening}
use Rattle.lvdc_deck.specs.declared.section.Opening.TheVariants as opening
use Rattle.lvdc_deck.specs.declared.section.ProgramKind.{ProgramKind}
use Rattle.lvdc_deck.specs.Sections.{nothing_said, is_debug}
use Rattle.lvdc_deck.specs.Deck.{and_then, Told, told_from, count_by, program_of, made_of, with_program, end_of, by_end, opening_of, by_opening, deck_from, deck_of}

by_count : (kind : ProgramKind) (bytes : List ℕ) (text : List Line) (next : ℕ) (told : Told) (deck : Deck) (debug : Bool) (count : Option ℕ) →
    and_then (count_by debug next count) (λ count. and_then (program_of kind bytes text) (λ program. made_of program told count)) ≡ Ok deck →
    and_then (count_by true next count) (λ count. and_then (program_of kind bytes text) (λ program. made_of program told count)) ≡ Ok deck
by_count kind bytes text next told deck true count is = is
by_count kind bytes text next told deck false count is = absurd (cc)

by_told : (kind : ProgramKind) (bytes : List ℕ) (text : List Line) (next : ℕ) (deck : Deck) (told : Result Told DeckFault) →
    and_then told (λ told. with_program kind bytes text true next told) ≡ Ok deck →
    and_then told (λ told. with_program kind bytes text false next told) ≡ Ok deck
by_told kind bytes text next deck (Ok told) is = by_count kind bytes text next told deck (is_debug told.sections.section) told.sections.count is
by_told kind bytes text next deck (Err fault) is = absurd (cc)

by_place : (kind : ProgramKind) (devices : List Device) (bytes : List ℕ) (next number : ℕ) (lines : List Line) (deck : Deck) (at : Option ℕ) →
    by_end kind devices true bytes next number lines at ≡ Ok deck → by_end kind devices false bytes next number lines at ≡ Ok deck
by_place kind devices bytes next number lines deck (Some at) is =
    by_told kind bytes (take (at + 1) lines) next deck (told_from devices bytes (nothing_said kind) (drop (at + 1) lines)) is
by_place kind devices bytes next number lines deck None is = absurd (cc)

by_first : (devices : List Device) (bytes : List ℕ) (next number : ℕ) (lines : List Line) (deck : Deck) (what : Opening) (session later : Result Deck DeckFault) →
    (session ≡ Ok deck → later ≡ Ok deck) →
    by_opening devices true bytes next number lines what session ≡ Ok deck → by_opening devices false bytes next number lines what later ≡ Ok deck
by_first devices bytes next number lines deck opening.Long session later more is = absurd (cc)
by_first devices bytes next number lines deck opening.Skipped session later more is = more is
by_first devices bytes next number lines deck (opening.Program kind) session later more is =
    by_place kind devices bytes next number lines deck (end_of bytes lines) is
by_first devices bytes next number lines deck opening.Other session later more is = absurd (cc)

session_from : (devices : List Device) (bytes : List ℕ) (next : ℕ) (lines : List Line) (deck : Deck) →
    deck_from devices true bytes next lines ≡ Ok deck → deck_from devices false bytes next lines ≡ Ok deck
unfolding deck_from
session_from devices bytes next [] deck is = absurd (cc)
session_from devices bytes next (line ∷ lines) deck is =
    by_first devices bytes next line.number lines deck (opening_of (part_of bytes line)) (deck_from devices true bytes next lines)
    (deck_from devices false bytes next lines) (session_from devices bytes next lines deck) is

pub session-runs : (bytes : List ℕ) (devices : List Device) (deck : Deck) → deck_of bytes devices true ≡ Ok deck → deck_of bytes devices false ≡ Ok deck
session-runs bytes devices deck is = session_from devices bytes (length (lines_of bytes) + 1) (lines_of bytes) deck is
