-- Lists of slots without a slot twice.
use Rattle.std.proofs.Common.{◌≡◌, ℕ, zero, suc, ◌≤◌, Bool, true, false, not, ◌&&◌, ◌||◌, List, [], ◌∷◌, ◌++◌, refl, sym, ap, ◌∙◌, arith, inl, inr}
use Rattle.std.specs.Prelude.{◌==◌}
use Rattle.std.proofs.lemmas.Bool.{true≢false, eqb-true, eq-eqb, and_parts, and_from, or_cases, or_left, or_right, not-true, not_from_false, false_from_ne_true}
use Rattle.std.proofs.lemmas.List.Folds.{list_any-append}
use Rattle.lvdc_place.specs.Slot.{Slot, is_same, slot_after, with_syllable}
use Rattle.lvdc_place.specs.Slots.{Slots, with_slot, with_slots, are_free, slots_at, block_slots}
use Rattle.lvdc_place.specs.Apart.{is_in, are_distinct}
use Rattle.lvdc_place.specs.declared.block.Kind.{Kind}
use Rattle.lvdc_place.specs.declared.block.Kind.TheVariants.{Code, Words}
use Rattle.lvdc_place.proofs.Runs.{with_slots-keeps}

-- slots that are the same are equal
pub same-slot : (a b : Slot) → is_same a b ≡ true → a ≡ b
same-slot a b h =
    let one = and_parts (a.pair == b.pair && a.sector == b.sector && a.syl == b.syl) (a.loc == b.loc) h in
    let two = and_parts (a.pair == b.pair && a.sector == b.sector) (a.syl == b.syl) one.0 in
    let three = and_parts (a.pair == b.pair) (a.sector == b.sector) two.0 in
    let pair : a.pair ≡ b.pair = eqb-true a.pair b.pair three.0 in
    let sector : a.sector ≡ b.sector = eqb-true a.sector b.sector three.1 in
    let syl : a.syl ≡ b.syl = eqb-true a.syl b.syl two.1 in
    let loc : a.loc ≡ b.loc = eqb-true a.loc b.loc one.1 in
    λ i. record { pair = pair i; sector = sector i; syl = syl i; loc = loc i }

same_self : (a : Slot) → is_same a a ≡ true
same_self a =
    and_from (a.pair == a.pair && a.sector == a.sector && a.syl == a.syl) (a.loc == a.loc)
    (and_from (a.pair == a.pair && a.sector == a.sector) (a.syl == a.syl)
    (and_from (a.pair == a.pair) (a.sector == a.sector) (eq-eqb a.pair a.pair refl) (eq-eqb a.sector a.sector refl))
    (eq-eqb a.syl a.syl refl))
    (eq-eqb a.loc a.loc refl)

-- two lists share no slot
pub record ShareNone (xs ys : List Slot) : Type 0 where
  pub none : (slot : Slot) → is_in slot xs ≡ true → is_in slot ys ≡ true → ⊥

pub is_in-append : (slot : Slot) (xs ys : List Slot) → is_in slot (xs ++ ys) ≡ (is_in slot xs || is_in slot ys)
is_in-append slot xs ys = list_any-append (is_same slot) xs ys

pub in-left : (slot : Slot) (xs ys : List Slot) → is_in slot xs ≡ true → is_in slot (xs ++ ys) ≡ true
in-left slot xs ys h = is_in-append slot xs ys ∙ or_left (is_in slot xs) (is_in slot ys) h

pub in-right : (slot : Slot) (xs ys : List Slot) → is_in slot ys ≡ true → is_in slot (xs ++ ys) ≡ true
in-right slot xs ys h = is_in-append slot xs ys ∙ or_right (is_in slot xs) (is_in slot ys) h

-- ---- distinct lists put together

-- a list put before another one
pub distinct-append : (xs ys : List Slot) → are_distinct xs ≡ true → are_distinct ys ≡ true → ShareNone xs ys → are_distinct (xs ++ ys) ≡ true
distinct-append [] ys p q apart = q
distinct-append (x ∷ xs) ys p q apart =
    let both = and_parts (not (is_in x xs)) (are_distinct xs) p in
    let rest : are_distinct (xs ++ ys) ≡ true = distinct-append xs ys both.1 q (record { none = λ slot a b. apart.none slot (or_right (is_same slot x) (is_in slot xs) a) b }) in
    and_from (not (is_in x (xs ++ ys))) (are_distinct (xs ++ ys))
    (not_from_false (is_in x (xs ++ ys)) (false_from_ne_true (is_in x (xs ++ ys)) (λ h. elim (or_cases (is_in x xs) (is_in x ys) (sym (is_in-append x xs ys) ∙ h)) [
      | inl a ↦ true≢false (sym a ∙ not-true (is_in x xs) both.0)
      | inr b ↦ apart.none x (or_left (is_same x x) (is_in x xs) (same_self x)) b
    ])))
    rest

-- a list put between two
pub distinct-between : (xs ys zs : List Slot) → are_distinct (xs ++ zs) ≡ true → are_distinct ys ≡ true → ShareNone ys (xs ++ zs) → are_distinct ((xs ++ ys) ++ zs) ≡ true
distinct-between [] ys zs p q apart = distinct-append ys zs q p apart
distinct-between (x ∷ xs) ys zs p q apart =
    let both = and_parts (not (is_in x (xs ++ zs))) (are_distinct (xs ++ zs)) p in
    let rest : are_distinct ((xs ++ ys) ++ zs) ≡ true = distinct-between xs ys zs both.1 q (record { none = λ slot a b. apart.none slot a (or_right (is_same slot x) (is_in slot (xs ++ zs)) b) }) in
    and_from (not (is_in x ((xs ++ ys) ++ zs))) (are_distinct ((xs ++ ys) ++ zs))
    (not_from_false (is_in x ((xs ++ ys) ++ zs)) (false_from_ne_true (is_in x ((xs ++ ys) ++ zs)) (λ h. elim (or_cases (is_in x (xs ++ ys)) (is_in x zs) (sym (is_in-append x (xs ++ ys) zs) ∙ h)) [
      | inl front ↦ elim (or_cases (is_in x xs) (is_in x ys) (sym (is_in-append x xs ys) ∙ front)) [
        | inl a ↦ true≢false (sym (in-left x xs zs a) ∙ not-true (is_in x (xs ++ zs)) both.0)
        | inr b ↦ apart.none x b (or_left (is_same x x) (is_in x (xs ++ zs)) (same_self x))
      ]
      | inr c ↦ true≢false (sym (in-right x xs zs c) ∙ not-true (is_in x (xs ++ zs)) both.0)
    ])))
    rest

-- ---- what is taken

-- the slots of a list are taken with it
pub in-taken : (taken : Slots) (slots : List Slot) (slot : Slot) → is_in slot slots ≡ true → with_slots taken slots slot ≡ true
in-taken taken [] slot h = absurd (true≢false (sym h))
in-taken taken (one ∷ more) slot h = elim (or_cases (is_same slot one) (is_in slot more) h) [
  | inl here ↦ with_slots-keeps (with_slot taken one) more slot (or_right (taken slot) (is_same slot one) here)
  | inr later ↦ in-taken (with_slot taken one) more slot later
]

-- each slot of a free list is free
pub in-free : (taken : Slots) (slots : List Slot) (slot : Slot) → are_free taken slots ≡ true → is_in slot slots ≡ true → taken slot ≡ false
in-free taken [] slot free h = absurd (true≢false (sym h))
in-free taken (one ∷ more) slot free h =
    let both = and_parts (not (taken one)) (are_free taken more) free in
    elim (or_cases (is_same slot one) (is_in slot more) h) [
      | inl here ↦ ap taken (same-slot slot one here) ∙ not-true (taken one) both.0
      | inr later ↦ in-free taken more slot both.1 later
    ]

-- ---- the slots of a block

or_false : (b : Bool) → (b || false) ≡ b
or_false true = refl
or_false false = refl

and_between : (a b : Bool) → ((a && false) && b) ≡ false
and_between true b = refl
and_between false b = refl

at_location : (kind : Kind) (first slot : Slot) → is_in slot (slots_at kind first) ≡ true → slot.loc ≡ first.loc
at_location Code first slot h = ap (λ (s : Slot). s.loc) (same-slot slot first (sym (or_false (is_same slot first)) ∙ h))
at_location (Words home) first slot h = elim (or_cases (is_same slot (with_syllable first 0)) (is_same slot (with_syllable first 1) || false) h) [
  | inl low ↦ ap (λ (s : Slot). s.loc) (same-slot slot (with_syllable first 0) low)
  | inr high ↦ ap (λ (s : Slot). s.loc) (same-slot slot (with_syllable first 1) (sym (or_false (is_same slot (with_syllable first 1))) ∙ high))
]

location_distinct : (kind : Kind) (first : Slot) → are_distinct (slots_at kind first) ≡ true
location_distinct Code first = refl
location_distinct (Words home) first =
    and_from (not (is_same (with_syllable first 0) (with_syllable first 1) || false)) true
    (not_from_false (is_same (with_syllable first 0) (with_syllable first 1) || false)
    (or_false (is_same (with_syllable first 0) (with_syllable first 1)) ∙ and_between (first.pair == first.pair && first.sector == first.sector) (first.loc == first.loc)))
    refl

-- they rise from its first location on
pub block-rises : (kind : Kind) (size : ℕ) (first slot : Slot) → is_in slot (block_slots kind size first) ≡ true → first.loc ≤ slot.loc
block-rises kind zero first slot h = absurd (true≢false (sym h))
block-rises kind (suc size) first slot h =
    elim (or_cases (is_in slot (slots_at kind first)) (is_in slot (block_slots kind size (slot_after first 1))) (sym (is_in-append slot (slots_at kind first) (block_slots kind size (slot_after first 1))) ∙ h)) [
      | inl here ↦ omega (arith, at_location kind first slot here)
      | inr later ↦ (let up = block-rises kind size (slot_after first 1) slot later in omega arith)
    ]

pub block-distinct : (kind : Kind) (size : ℕ) (first : Slot) → are_distinct (block_slots kind size first) ≡ true
block-distinct kind zero first = refl
block-distinct kind (suc size) first =
    distinct-append (slots_at kind first) (block_slots kind size (slot_after first 1)) (location_distinct kind first) (block-distinct kind size (slot_after first 1))
    (record { none = λ slot a b. absurd (omega (arith, at_location kind first slot a, block-rises kind size (slot_after first 1) slot b)) })
