-- A location of sector 17 that is taken in one pair after another.
use Rattle.std.proofs.Common.{◌≡◌, ℕ, ◌+◌, ◌<◌, Bool, true, false, ◌&&◌, ◌||◌, List, [], ◌∷◌, refl, sym, ap, ◌∙◌, arith, inl, inr}
use Rattle.std.specs.Prelude.{◌==◌, nat_lt}
use Rattle.std.proofs.lemmas.Bool.{ltb-true, lt-ltb, le-ltb, eqb-true, eq-eqb, and_parts, and_from, and_right, or_left, or_right, or_cases, cases_Bool, cases_lt}
use Rattle.lvdc_place.specs.Slot.{Slot, IsSlot, is_slot, is_same, with_syllable, sector_start}
use Rattle.lvdc_place.specs.Slots.{Slots, set_of, with_location, with_slots}
use Rattle.lvdc_place.proofs.Tables.{is_slot-true}

-- whether a slot stands at this location of sector 17 in one of so many pairs
abbrev pub is_reserved : ℕ → ℕ → Slot → Bool
is_reserved loc pairs slot = slot.sector == 15 && slot.loc == loc && nat_lt slot.pair pairs

-- these, and those slots
abbrev pub with_reserved : Slots → ℕ → ℕ → Slots
with_reserved taken loc pairs = λ slot. taken slot || is_reserved loc pairs slot

-- the word there in a pair
abbrev pub word_there : ℕ → ℕ → Slot
word_there pair loc = record (sector_start pair 15) { loc = loc }

-- what is said of a reserved slot
record IsThere (at pairs : ℕ) (slot : Slot) : Type 0 where
  sector : slot.sector ≡ 15
  loc : slot.loc ≡ at
  pair : slot.pair < pairs

there : (loc pairs : ℕ) (slot : Slot) → is_reserved loc pairs slot ≡ true → IsThere loc pairs slot
there loc pairs slot h =
    let one = and_parts (slot.sector == 15 && slot.loc == loc) (nat_lt slot.pair pairs) h in
    let two = and_parts (slot.sector == 15) (slot.loc == loc) one.0 in
    record { sector = eqb-true slot.sector 15 two.0; loc = eqb-true slot.loc loc two.1; pair = ltb-true slot.pair pairs one.1 }

from_there : (loc pairs : ℕ) (slot : Slot) → IsThere loc pairs slot → is_reserved loc pairs slot ≡ true
from_there loc pairs slot h =
    and_from (slot.sector == 15 && slot.loc == loc) (nat_lt slot.pair pairs)
    (and_from (slot.sector == 15) (slot.loc == loc) (eq-eqb slot.sector 15 h.sector) (eq-eqb slot.loc loc h.loc))
    (lt-ltb slot.pair pairs h.pair)

-- the slot is one of the word's
record IsOfWord (of at which : ℕ) (slot : Slot) : Type 0 where
  pair : slot.pair ≡ of
  sector : slot.sector ≡ 15
  syl : slot.syl ≡ which
  loc : slot.loc ≡ at

of_word : (pair loc syl : ℕ) (slot : Slot) → is_same slot (with_syllable (word_there pair loc) syl) ≡ true → IsOfWord pair loc syl slot
of_word pair loc syl slot h =
    let one = and_parts (slot.pair == pair && slot.sector == 15 && slot.syl == syl) (slot.loc == loc) h in
    let two = and_parts (slot.pair == pair && slot.sector == 15) (slot.syl == syl) one.0 in
    let three = and_parts (slot.pair == pair) (slot.sector == 15) two.0 in
    record { pair = eqb-true slot.pair pair three.0; sector = eqb-true slot.sector 15 three.1; syl = eqb-true slot.syl syl two.1; loc = eqb-true slot.loc loc one.1 }

from_word : (pair loc syl : ℕ) (slot : Slot) → IsOfWord pair loc syl slot → is_same slot (with_syllable (word_there pair loc) syl) ≡ true
from_word pair loc syl slot h =
    and_from (slot.pair == pair && slot.sector == 15 && slot.syl == syl) (slot.loc == loc)
    (and_from (slot.pair == pair && slot.sector == 15) (slot.syl == syl)
    (and_from (slot.pair == pair) (slot.sector == 15) (eq-eqb slot.pair pair h.pair) (eq-eqb slot.sector 15 h.sector))
    (eq-eqb slot.syl syl h.syl))
    (eq-eqb slot.loc loc h.loc)

or_false : (b : Bool) → (b || false) ≡ b
or_false true = refl
or_false false = refl

and_true : (b : Bool) → (b && true) ≡ b
and_true true = refl
and_true false = refl

-- two tests that follow from each other
same_tests : (a b : Bool) → (a ≡ true → b ≡ true) → (b ≡ true → a ≡ true) → a ≡ b
same_tests true b f g = sym (f refl)
same_tests false true f g = g refl
same_tests false false f g = refl

-- what is no slot is taken
outside_taken : (bits : List Bool) (slot : Slot) → is_slot slot ≡ false → set_of bits slot ≡ true
outside_taken bits slot h = rw h refl

-- one more pair
pub with_reserved-more : (bits : List Bool) (loc pair : ℕ) →
    with_slots (with_reserved (set_of bits) loc pair) (with_syllable (word_there pair loc) 0 ∷ with_syllable (word_there pair loc) 1 ∷ [])
    ≡ with_reserved (set_of bits) loc (pair + 1)
with_reserved-more bits loc pair = λ i slot. same_tests
    (((set_of bits slot || is_reserved loc pair slot) || is_same slot (with_syllable (word_there pair loc) 0)) || is_same slot (with_syllable (word_there pair loc) 1))
    (set_of bits slot || is_reserved loc (pair + 1) slot) (later slot) (earlier slot) i
  where
    from_one : (syl : ℕ) (slot : Slot) → is_same slot (with_syllable (word_there pair loc) syl) ≡ true → (set_of bits slot || is_reserved loc (pair + 1) slot) ≡ true
    from_one syl slot h =
        let w : IsOfWord pair loc syl slot = of_word pair loc syl slot h in
        let here : slot.pair ≡ pair = w.pair in
        or_right (set_of bits slot) (is_reserved loc (pair + 1) slot)
        (from_there loc (pair + 1) slot (record { sector = w.sector; loc = w.loc; pair = omega arith }))

    from_earlier : (slot : Slot) → (set_of bits slot || is_reserved loc pair slot) ≡ true → (set_of bits slot || is_reserved loc (pair + 1) slot) ≡ true
    from_earlier slot h = elim (or_cases (set_of bits slot) (is_reserved loc pair slot) h) [
      | inl t ↦ or_left (set_of bits slot) (is_reserved loc (pair + 1) slot) t
      | inr r ↦ (
          let w : IsThere loc pair slot = there loc pair slot r in
          let here : slot.pair < pair = w.pair in
          or_right (set_of bits slot) (is_reserved loc (pair + 1) slot)
          (from_there loc (pair + 1) slot (record { sector = w.sector; loc = w.loc; pair = omega arith }))
          )
    ]

    later : (slot : Slot) → (((set_of bits slot || is_reserved loc pair slot) || is_same slot (with_syllable (word_there pair loc) 0)) || is_same slot (with_syllable (word_there pair loc) 1)) ≡ true
        → (set_of bits slot || is_reserved loc (pair + 1) slot) ≡ true
    later slot h =
        elim (or_cases ((set_of bits slot || is_reserved loc pair slot) || is_same slot (with_syllable (word_there pair loc) 0)) (is_same slot (with_syllable (word_there pair loc) 1)) h) [
          | inl g ↦ elim (or_cases (set_of bits slot || is_reserved loc pair slot) (is_same slot (with_syllable (word_there pair loc) 0)) g) [
            | inl e ↦ from_earlier slot e
            | inr low ↦ from_one 0 slot low
          ]
          | inr high ↦ from_one 1 slot high
        ]

    of_old : (slot : Slot) → (set_of bits slot || is_reserved loc pair slot) ≡ true
        → (((set_of bits slot || is_reserved loc pair slot) || is_same slot (with_syllable (word_there pair loc) 0)) || is_same slot (with_syllable (word_there pair loc) 1)) ≡ true
    of_old slot h =
        or_left ((set_of bits slot || is_reserved loc pair slot) || is_same slot (with_syllable (word_there pair loc) 0)) (is_same slot (with_syllable (word_there pair loc) 1))
        (or_left (set_of bits slot || is_reserved loc pair slot) (is_same slot (with_syllable (word_there pair loc) 0)) h)

    of_zeroth : (slot : Slot) → is_same slot (with_syllable (word_there pair loc) 0) ≡ true
        → (((set_of bits slot || is_reserved loc pair slot) || is_same slot (with_syllable (word_there pair loc) 0)) || is_same slot (with_syllable (word_there pair loc) 1)) ≡ true
    of_zeroth slot h =
        or_left ((set_of bits slot || is_reserved loc pair slot) || is_same slot (with_syllable (word_there pair loc) 0)) (is_same slot (with_syllable (word_there pair loc) 1))
        (or_right (set_of bits slot || is_reserved loc pair slot) (is_same slot (with_syllable (word_there pair loc) 0)) h)

    of_first : (slot : Slot) → is_same slot (with_syllable (word_there pair loc) 1) ≡ true
        → (((set_of bits slot || is_reserved loc pair slot) || is_same slot (with_syllable (word_there pair loc) 0)) || is_same slot (with_syllable (word_there pair loc) 1)) ≡ true
    of_first slot h =
        or_right ((set_of bits slot || is_reserved loc pair slot) || is_same slot (with_syllable (word_there pair loc) 0)) (is_same slot (with_syllable (word_there pair loc) 1)) h

    of_new : (slot : Slot) → is_slot slot ≡ true → IsThere loc (pair + 1) slot
        → (((set_of bits slot || is_reserved loc pair slot) || is_same slot (with_syllable (word_there pair loc) 0)) || is_same slot (with_syllable (word_there pair loc) 1)) ≡ true
    of_new slot inside w =
        let ok : IsSlot slot = is_slot-true slot inside in
        let syl : slot.syl < 2 = ok.syl in
        let below : slot.pair < pair + 1 = w.pair in
        elim (cases_lt slot.pair pair) [
          | inl old ↦ of_old slot (or_right (set_of bits slot) (is_reserved loc pair slot) (from_there loc pair slot (record { sector = w.sector; loc = w.loc; pair = old })))
          | inr new ↦ elim (cases_lt slot.syl 1) [
            | inl low ↦ of_zeroth slot (from_word pair loc 0 slot (record { pair = omega arith; sector = w.sector; syl = omega arith; loc = w.loc }))
            | inr high ↦ of_first slot (from_word pair loc 1 slot (record { pair = omega arith; sector = w.sector; syl = omega arith; loc = w.loc }))
          ]
        ]

    earlier : (slot : Slot) → (set_of bits slot || is_reserved loc (pair + 1) slot) ≡ true
        → (((set_of bits slot || is_reserved loc pair slot) || is_same slot (with_syllable (word_there pair loc) 0)) || is_same slot (with_syllable (word_there pair loc) 1)) ≡ true
    earlier slot h = elim (or_cases (set_of bits slot) (is_reserved loc (pair + 1) slot) h) [
      | inl t ↦ of_old slot (or_left (set_of bits slot) (is_reserved loc pair slot) t)
      | inr r ↦ elim (cases_Bool (is_slot slot)) [
        | inl inside ↦ of_new slot inside (there loc (pair + 1) slot r)
        | inr outside ↦ of_old slot (or_left (set_of bits slot) (is_reserved loc pair slot) (outside_taken bits slot outside))
      ]
    ]

-- in all four pairs
pub with_reserved-all : (bits : List Bool) (loc : ℕ) → with_reserved (set_of bits) loc 4 ≡ with_location (set_of bits) loc
with_reserved-all bits loc = λ i slot. at slot i
  where
    whole : (slot : Slot) → is_slot slot ≡ true → is_reserved loc 4 slot ≡ (slot.sector == 15 && slot.loc == loc)
    whole slot inside =
        let ok : IsSlot slot = is_slot-true slot inside in
        ap (λ b. slot.sector == 15 && slot.loc == loc && b) (lt-ltb slot.pair 4 ok.pair) ∙ and_true (slot.sector == 15 && slot.loc == loc)

    at : (slot : Slot) → with_reserved (set_of bits) loc 4 slot ≡ with_location (set_of bits) loc slot
    at slot = elim (cases_Bool (is_slot slot)) [
      | inl inside ↦ ap (λ b. set_of bits slot || b) (whole slot inside)
      | inr outside ↦ or_left (set_of bits slot) (is_reserved loc 4 slot) (outside_taken bits slot outside)
          ∙ sym (or_left (set_of bits slot) (slot.sector == 15 && slot.loc == loc) (outside_taken bits slot outside))
    ]

-- in none
pub with_reserved-none : (taken : Slots) (loc : ℕ) → with_reserved taken loc 0 ≡ taken
with_reserved-none taken loc = λ i slot. at slot i
  where
    at : (slot : Slot) → with_reserved taken loc 0 slot ≡ taken slot
    at slot =
        ap (λ b. taken slot || b) (and_right (slot.sector == 15 && slot.loc == loc) (nat_lt slot.pair 0) (le-ltb slot.pair 0 (omega arith)))
        ∙ or_false (taken slot)
