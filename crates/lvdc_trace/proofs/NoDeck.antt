-- A saved text is no deck.
use Rattle.std.proofs.Common.{◌≡◌, ℕ, ◌+◌, Bool, true, List, [], ◌∷◌, map, length, codes, Ok, Err, refl, ap, ◌∙◌}
use Rattle.std.proofs.lemmas.Slice.Eq.{bytes_eq-Decides}
use Rattle.lvdc_text.specs.declared.cutting.Line.{Line}
use Rattle.lvdc_text.specs.Lines.{lines_of, part_of}
use Rattle.lvdc_text.proofs.Texts.{texts-lines_of}
use Rattle.lvdc_port.specs.Device.{Device}
use Rattle.lvdc_machine.specs.declared.mode.Mode.{Mode}
use Rattle.lvdc_machine.specs.declared.mode.Mode.TheVariants.{Guarded, Through}
use Rattle.lvdc_deck.specs.Deck.{by_opening, opening_of, deck_from, deck_of}
use Rattle.lvdc_deck.specs.declared.deck.Deck.{Deck}
use Rattle.lvdc_deck.specs.declared.fault.DeckFault.TheVariants.{NoProgram}
use Rattle.lvdc_trace.specs.Answers.{begins_saved, is_saved, takes_saved}

-- its first line opens no program, so the lines are refused there
refused-first : (devices : List Device) (debugging : Bool) (bytes : List ℕ) (next : ℕ) (lines : List Line)
    → begins_saved (map (part_of bytes) lines) ≡ true → (deck : Deck) → deck_from devices debugging bytes next lines ≡ Ok deck → ⊥
unfolding deck_from
refused-first devices debugging bytes next [] save deck is = absurd (cc (save))
refused-first devices debugging bytes next (line ∷ lines) save deck is =
    let title : part_of bytes line ≡ codes "LVDC SAVE 1" = (bytes_eq-Decides (part_of bytes line) (codes "LVDC SAVE 1")).0 save in
    let refused : deck_from devices debugging bytes next (line ∷ lines) ≡ Err (NoProgram line.number) =
    ap (λ (text : List ℕ). by_opening devices debugging bytes next line.number lines (opening_of text) (deck_from devices debugging bytes next lines)) title in
    absurd (cc (refused, is))

-- no bytes are both
both : (bytes : List ℕ) (devices : List Device) (debugging : Bool) → is_saved bytes ≡ true → (deck : Deck) → deck_of bytes devices debugging ≡ Ok deck → ⊥
both bytes devices debugging save deck is =
    refused-first devices debugging bytes (length (lines_of bytes) + 1) (lines_of bytes) (ap begins_saved (texts-lines_of bytes) ∙ save) deck is

-- what a trace takes as a saved text is judged
pub takes-guarded : (mode : Mode) (bytes : List ℕ) → takes_saved mode bytes ≡ true → mode ≡ Guarded
takes-guarded Guarded bytes takes = refl
takes-guarded Through bytes takes = absurd (cc (takes))

-- and is no deck
pub no-deck : (mode : Mode) (bytes : List ℕ) (devices : List Device) (debugging : Bool) → takes_saved mode bytes ≡ true
    → (deck : Deck) → deck_of bytes devices debugging ≡ Ok deck → ⊥
no-deck Guarded bytes devices debugging takes deck is = both bytes devices debugging takes deck is
no-deck Through bytes devices debugging takes deck is = absurd (cc (takes))
