-- The set of slots that a list of bits tells.
use Rattle.std.proofs.Common.{◌≡◌, ℕ, ◌<◌, Bool, true, false, ◌&&◌, ◌||◌, List, length, get_or, refl, sym, ap, ◌∙◌, arith, inl, inr}
use Rattle.std.specs.Prelude.{◌==◌, nat_lt}
use Rattle.std.proofs.Math.ListN.{set, replicate}
use Rattle.std.proofs.lemmas.Bool.{ltb-true, lt-ltb, eqb-true, eq-eqb, and_parts, and_from, or_right, cases_Bool, cases_eq, false_from_ne_true}
use Rattle.std.proofs.lemmas.List.{get_or-set_same, get_or-set_other, get_or-replicate}
use Rattle.lvdc_place.specs.Slot.{Slot, IsSlot, is_slot, is_same, number_of}
use Rattle.lvdc_place.specs.Slots.{outside, with_slot, set_of}

or_false : (b : Bool) → (b || false) ≡ b
or_false true = refl
or_false false = refl

-- ---- slots

-- the test of a slot
pub is_slot-true : (slot : Slot) → is_slot slot ≡ true → IsSlot slot
is_slot-true slot h =
    let one = and_parts (nat_lt slot.pair 4 && nat_lt slot.sector 16 && nat_lt slot.syl 2) (nat_lt slot.loc 256) h in
    let two = and_parts (nat_lt slot.pair 4 && nat_lt slot.sector 16) (nat_lt slot.syl 2) one.0 in
    let three = and_parts (nat_lt slot.pair 4) (nat_lt slot.sector 16) two.0 in
    record {
      pair = ltb-true slot.pair 4 three.0;
      sector = ltb-true slot.sector 16 three.1;
      syl = ltb-true slot.syl 2 two.1;
      loc = ltb-true slot.loc 256 one.1;
    }

pub is_slot-from : (slot : Slot) → IsSlot slot → is_slot slot ≡ true
is_slot-from slot h =
    and_from (nat_lt slot.pair 4 && nat_lt slot.sector 16 && nat_lt slot.syl 2) (nat_lt slot.loc 256)
    (and_from (nat_lt slot.pair 4 && nat_lt slot.sector 16) (nat_lt slot.syl 2)
    (and_from (nat_lt slot.pair 4) (nat_lt slot.sector 16) (lt-ltb slot.pair 4 h.pair) (lt-ltb slot.sector 16 h.sector))
    (lt-ltb slot.syl 2 h.syl))
    (lt-ltb slot.loc 256 h.loc)

-- slots of the same number are the same
pub same-number : (a b : Slot) → IsSlot a → IsSlot b → number_of a ≡ number_of b → is_same a b ≡ true
same-number a b p q h =
    let pair : a.pair ≡ b.pair = omega (arith, p.pair, p.sector, p.syl, p.loc, q.pair, q.sector, q.syl, q.loc, h) in
    let sector : a.sector ≡ b.sector = omega (arith, p.pair, p.sector, p.syl, p.loc, q.pair, q.sector, q.syl, q.loc, h) in
    let syl : a.syl ≡ b.syl = omega (arith, p.pair, p.sector, p.syl, p.loc, q.pair, q.sector, q.syl, q.loc, h) in
    let loc : a.loc ≡ b.loc = omega (arith, p.pair, p.sector, p.syl, p.loc, q.pair, q.sector, q.syl, q.loc, h) in
    and_from (a.pair == b.pair && a.sector == b.sector && a.syl == b.syl) (a.loc == b.loc)
    (and_from (a.pair == b.pair && a.sector == b.sector) (a.syl == b.syl)
    (and_from (a.pair == b.pair) (a.sector == b.sector) (eq-eqb a.pair b.pair pair) (eq-eqb a.sector b.sector sector))
    (eq-eqb a.syl b.syl syl))
    (eq-eqb a.loc b.loc loc)

-- the same slots have one number
pub number-same : (a b : Slot) → is_same a b ≡ true → number_of a ≡ number_of b
number-same a b h =
    let one = and_parts (a.pair == b.pair && a.sector == b.sector && a.syl == b.syl) (a.loc == b.loc) h in
    let two = and_parts (a.pair == b.pair && a.sector == b.sector) (a.syl == b.syl) one.0 in
    let three = and_parts (a.pair == b.pair) (a.sector == b.sector) two.0 in
    omega (arith, eqb-true a.pair b.pair three.0, eqb-true a.sector b.sector three.1, eqb-true a.syl b.syl two.1, eqb-true a.loc b.loc one.1)

-- ---- sets

-- one more bit
pub set_of-set : (bits : List Bool) (slot : Slot) → length bits ≡ 32768 → IsSlot slot →
    set_of (set bits (number_of slot) true) ≡ with_slot (set_of bits) slot
set_of-set bits slot size within = λ i other. at other i
  where
    number : ℕ
    number = number_of slot

    fits : number_of slot < length bits
    fits = omega (arith, within.pair, within.sector, within.syl, within.loc, size)

    inside : (other : Slot) → is_slot other ≡ true → get_or (set bits (number_of slot) true) (number_of other) true ≡ (get_or bits (number_of other) true || is_same other slot)
    inside other here = elim (cases_eq (number_of other) (number_of slot)) [
      | inl same ↦ (
          ap (λ n. get_or (set bits (number_of slot) true) n true) same
          ∙ get_or-set_same {A = Bool} bits (number_of slot) true true fits
          ∙ sym (or_right (get_or bits (number_of other) true) (is_same other slot) (same-number other slot (is_slot-true other here) within same))
          )
      | inr differ ↦ (
          get_or-set_other {A = Bool} bits (number_of slot) (number_of other) true true differ
          ∙ sym (ap (λ b. get_or bits (number_of other) true || b) (false_from_ne_true (is_same other slot) (λ h. differ (number-same other slot h)))
          ∙ or_false (get_or bits (number_of other) true))
          )
    ]

    at : (other : Slot) → set_of (set bits (number_of slot) true) other ≡ with_slot (set_of bits) slot other
    at other = elim (cases_Bool (is_slot other)) [
      | inl here ↦ rw here (inside other here)
      | inr there ↦ rw there refl
    ]

-- no bit
pub set_of-none : (n : ℕ) (bits : List Bool) → n ≡ 32768 → bits ≡ replicate n false → set_of bits ≡ outside
set_of-none n bits size is = λ i slot. at slot i
  where
    inside : (slot : Slot) → is_slot slot ≡ true → get_or bits (number_of slot) true ≡ false
    inside slot here =
        let within : IsSlot slot = is_slot-true slot here in
        ap (λ (bs : List Bool). get_or bs (number_of slot) true) is
        ∙ get_or-replicate {A = Bool} n (number_of slot) false true (omega (arith, within.pair, within.sector, within.syl, within.loc, size))

    at : (slot : Slot) → set_of bits slot ≡ outside slot
    at slot = elim (cases_Bool (is_slot slot)) [
      | inl here ↦ rw here (inside slot here)
      | inr there ↦ rw there refl
    ]
