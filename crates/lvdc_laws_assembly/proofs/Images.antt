-- The words of a table of locations, by their addresses.
use Rattle.std.proofs.Common.{◌≡◌, ℕ, zero, suc, ◌+◌, ◌/◌, ◌%◌, ◌<◌, ◌≤◌, true, false, List, [], ◌∷◌, ◌++◌, length, get_or, Option, None, Some, refl, ◌∙◌, arith, inl, inr}
use Rattle.std.specs.Prelude.{◌==◌, ◌&&◌}
use Rattle.std.proofs.lemmas.Bool.{and_parts, and_from, eq-eqb, eqb-true, false_from_ne_true, cases_lt}
use Rattle.lvdc_map.specs.Address.{Spot, number_of, spot_at, is_same}
use Rattle.lvdc_map.specs.declared.placed.Placed.{Placed}
use Rattle.lvdc_place.specs.Slot.{IsSlot, is_slot, slot_of}
use Rattle.lvdc_place.proofs.Tables.{is_slot-true}
use Rattle.lvdc_asm.specs.Locations.{Locations, no_syllables, location_at, word_in, placed_at, words_from, words_of}
use Rattle.lvdc_laws_assembly.specs.Images.{word_at}

-- the address at another number is another one
spot-other : (place : ℕ) (at : Spot) → (number_of at ≡ place → ⊥) → is_same (spot_at place) at ≡ false
spot-other place at apart = false_from_ne_true (is_same (spot_at place) at) (λ h.
    let one = and_parts (place / 4096 == at.pair && place / 256 % 16 == at.sector) (place % 256 == at.loc) h in
    let two = and_parts (place / 4096 == at.pair) (place / 256 % 16 == at.sector) one.0 in
    apart (omega (arith, eqb-true (place / 4096) at.pair two.0, eqb-true (place / 256 % 16) at.sector two.1, eqb-true (place % 256) at.loc one.1)))

spot-same : (place : ℕ) (at : Spot) → at.sector < 16 → at.loc < 256 → number_of at ≡ place → is_same (spot_at place) at ≡ true
spot-same place at sector loc is =
    and_from (place / 4096 == at.pair && place / 256 % 16 == at.sector) (place % 256 == at.loc)
    (and_from (place / 4096 == at.pair) (place / 256 % 16 == at.sector)
    (eq-eqb (place / 4096) at.pair (omega (arith, sector, loc, is))) (eq-eqb (place / 256 % 16) at.sector (omega (arith, sector, loc, is))))
    (eq-eqb (place % 256) at.loc (omega (arith, sector, loc, is)))

-- a word here is found here
found-here : (place : ℕ) (at : Spot) (w : Option ℕ) (rest : List Placed) → is_same (spot_at place) at ≡ true → word_at rest at ≡ None → word_at (placed_at (spot_at place) w ++ rest) at ≡ w
found-here place at None rest same none = none
found-here place at (Some w) rest same none = rw same refl

-- another one isn't
found-later : (place : ℕ) (at : Spot) (w : Option ℕ) (rest : List Placed) → is_same (spot_at place) at ≡ false → word_at (placed_at (spot_at place) w ++ rest) at ≡ word_at rest at
found-later place at None rest other = refl
found-later place at (Some w) rest other = rw other refl

-- no word stands before the first location, nor after the last one
pub none-outside : (place : ℕ) (locations : Locations) (at : Spot) → (place ≤ number_of at → number_of at < place + length locations → ⊥) → word_at (words_from place locations) at ≡ None
none-outside place [] at out = refl
none-outside place (location ∷ locations) at out =
    found-later place at (word_in location) (words_from (place + 1) locations) (spot-other place at (λ is. out (omega arith) (omega arith)))
    ∙ none-outside (place + 1) locations at (λ low high. out (omega arith) (omega arith))

found-from : (place : ℕ) (locations : Locations) (at : Spot) (i : ℕ) → i < length locations → at.sector < 16 → at.loc < 256 → number_of at ≡ place + i →
    word_at (words_from place locations) at ≡ word_in (get_or locations i no_syllables)
found-from place [] at i within sector loc is = absurd (omega arith)
found-from place (location ∷ locations) at zero within sector loc is =
    found-here place at (word_in location) (words_from (place + 1) locations) (spot-same place at sector loc (omega (arith, is)))
    (none-outside (place + 1) locations at (λ low high. absurd (omega (arith, is, low))))
found-from place (location ∷ locations) at (suc i) within sector loc is =
    found-later place at (word_in location) (words_from (place + 1) locations) (spot-other place at (λ e. absurd (omega (arith, is, e))))
    ∙ found-from (place + 1) locations at i (omega arith) sector loc (omega (arith, is))

-- an address has the word of its location
pub word_at-words_of : (locations : Locations) (at : Spot) (syl : ℕ) → length locations ≡ 16384 → is_slot (slot_of at syl) ≡ true → word_at (words_of locations) at ≡ word_in (location_at locations at)
word_at-words_of locations at syl size inside =
    let sound : IsSlot (slot_of at syl) = is_slot-true (slot_of at syl) inside in
    found-from 0 locations at (number_of at) (omega (arith, size, sound.pair, sound.sector, sound.loc)) sound.sector sound.loc (omega arith)

-- the address at a place of the order is in its ranges
none-past : (place : ℕ) (locations : Locations) (at : Spot) → (at.sector < 16 → at.loc < 256 → ⊥) → word_at (words_from place locations) at ≡ None
none-past place [] at out = refl
none-past place (location ∷ locations) at out =
    found-later place at (word_in location) (words_from (place + 1) locations) (false_from_ne_true (is_same (spot_at place) at) (λ h.
    let one = and_parts (place / 4096 == at.pair && place / 256 % 16 == at.sector) (place % 256 == at.loc) h in
    let two = and_parts (place / 4096 == at.pair) (place / 256 % 16 == at.sector) one.0 in
    out (omega (arith, eqb-true (place / 256 % 16) at.sector two.1)) (omega (arith, eqb-true (place % 256) at.loc one.1))))
    ∙ none-past (place + 1) locations at out

-- what is no address of the four pairs has no word
pub word_at-outside : (locations : Locations) (at : Spot) → length locations ≡ 16384 → (at.pair < 4 → at.sector < 16 → at.loc < 256 → ⊥) → word_at (words_of locations) at ≡ None
word_at-outside locations at size out = elim (cases_lt at.sector 16) [
  | inr far ↦ none-past 0 locations at (λ s l. absurd (omega arith))
  | inl sector ↦ elim (cases_lt at.loc 256) [
    | inr far ↦ none-past 0 locations at (λ s l. absurd (omega arith))
    | inl loc ↦ none-outside 0 locations at (λ low high. out (omega (arith, size)) sector loc)
  ]
]
