-- What a slot holds in a table of locations, before and after something is put there.
use Rattle.std.proofs.Common.{◌≡◌, ℕ, zero, suc, ◌<◌, Bool, true, false, cond, ◌&&◌, ◌||◌, [], ◌∷◌, length, get_or, Option, None, Some, refl, sym, ap, ◌∙◌, arith, inl, inr}
use Rattle.std.specs.Prelude.{◌==◌}
use Rattle.std.proofs.lemmas.Bool.{true≢false, or_parts, and_from, eq-eqb, cases_eq}
use Rattle.std.proofs.lemmas.List.{get_or-set_same, get_or-set_other, get_or-replicate, length-replicate}
use Rattle.lvdc_word.specs.Word.{upper, lower}
use Rattle.lvdc_map.specs.Address.{Spot, number_of}
use Rattle.lvdc_place.specs.Slot.{Slot, IsSlot, is_slot, is_same, slot_of, address_of}
use Rattle.lvdc_place.specs.Apart.{is_in}
use Rattle.lvdc_place.proofs.Tables.{is_slot-true}
use Rattle.lvdc_laws_assembly.specs.Images.{half_of}
use Rattle.lvdc_asm.specs.Locations.{Locations, no_syllables, nothing, both_syllables, with_syllable, location_at, with_code, with_word}

-- what a slot holds
abbrev pub held : Locations → Slot → Option ℕ
held locations slot = cond (slot.syl == 1) (location_at locations (address_of slot)).one (location_at locations (address_of slot)).zero

-- ---- one location

same-side : (locations : Locations) (at : Spot) (syl s : ℕ) → cond (syl == 1) (with_syllable (location_at locations at) syl s).one (with_syllable (location_at locations at) syl s).zero ≡ Some s
same-side locations at syl s = by (syl == 1)
  where
    by : (b : Bool) → cond b (cond b (record (location_at locations at) { one = Some s }) (record (location_at locations at) { zero = Some s })).one
        (cond b (record (location_at locations at) { one = Some s }) (record (location_at locations at) { zero = Some s })).zero ≡ Some s
    by true = refl
    by false = refl

other-side : (locations : Locations) (at : Spot) (syl other s : ℕ) → syl < 2 → other < 2 → (other ≡ syl → ⊥)
    → cond (other == 1) (with_syllable (location_at locations at) syl s).one (with_syllable (location_at locations at) syl s).zero ≡ cond (other == 1) (location_at locations at).one (location_at locations at).zero
other-side locations at zero zero s a b apart = absurd (apart refl)
other-side locations at zero (suc zero) s a b apart = refl
other-side locations at (suc zero) zero s a b apart = refl
other-side locations at (suc zero) (suc zero) s a b apart = absurd (apart refl)
other-side locations at (suc (suc n)) other s a b apart = absurd (omega arith)
other-side locations at zero (suc (suc n)) s a b apart = absurd (omega arith)
other-side locations at (suc zero) (suc (suc n)) s a b apart = absurd (omega arith)

both-sides : (w syl : ℕ) → cond (syl == 1) (both_syllables w).one (both_syllables w).zero ≡ Some (half_of syl w)
both-sides w syl = by (syl == 1)
  where
    by : (b : Bool) → cond b (Some (upper w)) (Some (lower w)) ≡ Some (cond b (upper w) (lower w))
    by true = refl
    by false = refl

-- ---- a table

-- a slot is in the table
fits : (locations : Locations) (slot : Slot) → length locations ≡ 16384 → is_slot slot ≡ true → number_of (address_of slot) < length locations
fits locations slot size inside =
    let sound : IsSlot slot = is_slot-true slot inside in
    omega (arith, size, sound.pair, sound.sector, sound.loc)

-- slots of one syllable, whose addresses have one number, are the same
same-address : (a b : Slot) → is_slot a ≡ true → is_slot b ≡ true → number_of (address_of a) ≡ number_of (address_of b) → a.syl ≡ b.syl → is_same a b ≡ true
same-address a b p q number syl =
    let m : IsSlot a = is_slot-true a p in
    let n : IsSlot b = is_slot-true b q in
    and_from (a.pair == b.pair && a.sector == b.sector && a.syl == b.syl) (a.loc == b.loc)
    (and_from (a.pair == b.pair && a.sector == b.sector) (a.syl == b.syl)
    (and_from (a.pair == b.pair) (a.sector == b.sector)
    (eq-eqb a.pair b.pair (omega (arith, number, m.pair, m.sector, m.loc, n.pair, n.sector, n.loc)))
    (eq-eqb a.sector b.sector (omega (arith, number, m.pair, m.sector, m.loc, n.pair, n.sector, n.loc))))
    (eq-eqb a.syl b.syl syl))
    (eq-eqb a.loc b.loc (omega (arith, number, m.pair, m.sector, m.loc, n.pair, n.sector, n.loc)))

-- ---- code

pub held-code : (locations : Locations) (at : Spot) (syl s : ℕ) → length locations ≡ 16384 → is_slot (slot_of at syl) ≡ true → held (with_code locations at syl s) (slot_of at syl) ≡ Some s
held-code locations at syl s size inside =
    ap (λ location. cond (syl == 1) location.one location.zero)
    (get_or-set_same locations (number_of at) (with_syllable (location_at locations at) syl s) no_syllables (fits locations (slot_of at syl) size inside))
    ∙ same-side locations at syl s

pub held-code-other : (locations : Locations) (at : Spot) (syl s : ℕ) (slot : Slot) → length locations ≡ 16384 → is_slot (slot_of at syl) ≡ true → is_slot slot ≡ true
    → is_in slot (slot_of at syl ∷ []) ≡ false → held (with_code locations at syl s) slot ≡ held locations slot
held-code-other locations at syl s slot size inside within other = elim (cases_eq (number_of (address_of slot)) (number_of at)) [
  | inr apart ↦ ap (λ location. cond (slot.syl == 1) location.one location.zero)
      (get_or-set_other locations (number_of at) (number_of (address_of slot)) (with_syllable (location_at locations at) syl s) no_syllables apart)
  | inl here ↦ (
      let one : IsSlot (slot_of at syl) = is_slot-true (slot_of at syl) inside in
      let two : IsSlot slot = is_slot-true slot within in
      let apart : slot.syl ≡ syl → ⊥ = λ same. true≢false (sym (same-address slot (slot_of at syl) within inside here same) ∙ (or_parts (is_same slot (slot_of at syl)) false other).0) in
      ap (λ (n : ℕ). cond (slot.syl == 1) (get_or (with_code locations at syl s) n no_syllables).one (get_or (with_code locations at syl s) n no_syllables).zero) here
      ∙ ap (λ location. cond (slot.syl == 1) location.one location.zero)
      (get_or-set_same locations (number_of at) (with_syllable (location_at locations at) syl s) no_syllables (fits locations (slot_of at syl) size inside))
      ∙ other-side locations at syl slot.syl s one.syl two.syl apart
      ∙ ap (λ (n : ℕ). cond (slot.syl == 1) (get_or locations n no_syllables).one (get_or locations n no_syllables).zero) (sym here)
      )
]

-- ---- words

pub held-word : (locations : Locations) (at : Spot) (w syl : ℕ) → length locations ≡ 16384 → is_slot (slot_of at syl) ≡ true → held (with_word locations at w) (slot_of at syl) ≡ Some (half_of syl w)
held-word locations at w syl size inside =
    ap (λ location. cond (syl == 1) location.one location.zero)
    (get_or-set_same locations (number_of at) (both_syllables w) no_syllables (fits locations (slot_of at syl) size inside))
    ∙ both-sides w syl

below-two : (n : ℕ) → n < 2 → (n ≡ 0 → ⊥) → (n ≡ 1 → ⊥) → ⊥
below-two zero small a b = a refl
below-two (suc zero) small a b = b refl
below-two (suc (suc n)) small a b = absurd (omega arith)

pub held-word-other : (locations : Locations) (at : Spot) (w : ℕ) (slot : Slot) → is_slot (slot_of at 0) ≡ true → is_slot (slot_of at 1) ≡ true → is_slot slot ≡ true
    → is_in slot (slot_of at 0 ∷ slot_of at 1 ∷ []) ≡ false → held (with_word locations at w) slot ≡ held locations slot
held-word-other locations at w slot low high within other =
    ap (λ location. cond (slot.syl == 1) location.one location.zero)
    (get_or-set_other locations (number_of at) (number_of (address_of slot)) (both_syllables w) no_syllables apart)
  where
    apart : number_of (address_of slot) ≡ number_of at → ⊥
    apart here =
        let two : IsSlot slot = is_slot-true slot within in
        let parts = or_parts (is_same slot (slot_of at 0)) (is_same slot (slot_of at 1) || false) other in
        let more = or_parts (is_same slot (slot_of at 1)) false parts.1 in
        below-two slot.syl two.syl
        (λ same. true≢false (sym (same-address slot (slot_of at 0) within low here same) ∙ parts.0))
        (λ same. true≢false (sym (same-address slot (slot_of at 1) within high here same) ∙ more.0))

-- ---- the empty table

pub length-nothing : length nothing ≡ 16384
unfolding nothing
length-nothing = length-replicate 16384 no_syllables

no-side : (syl : ℕ) → ◌≡◌ {A = Option ℕ} (cond (syl == 1) no_syllables.one no_syllables.zero) None
no-side syl = by (syl == 1)
  where
    by : (b : Bool) → ◌≡◌ {A = Option ℕ} (cond b None None) None
    by true = refl
    by false = refl

pub held-nothing : (slot : Slot) → is_slot slot ≡ true → held nothing slot ≡ None
unfolding nothing
held-nothing slot inside =
    let sound : IsSlot slot = is_slot-true slot inside in
    ap (λ location. cond (slot.syl == 1) location.one location.zero)
    (get_or-replicate 16384 (number_of (address_of slot)) no_syllables no_syllables (omega (arith, sound.pair, sound.sector, sound.loc)))
    ∙ no-side slot.syl
