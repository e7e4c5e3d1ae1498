-- The slots of a block, location by location.
use Rattle.std.proofs.Common.{◌≡◌, ℕ, zero, suc, ◌+◌, ◌-◌, ◌/◌, ◌%◌, ◌<◌, ◌≤◌, max, Bool, true, false, not, ◌&&◌, List, [], ◌∷◌, ◌++◌, refl, sym, ap, ◌∙◌, arith}
use Rattle.std.specs.Prelude.{nat_lt}
use Rattle.std.proofs.lemmas.Bool.{true≢false, le-ltb, and_parts, and_from, and_right, or_left, not-true, not_from_false, false_from_ne_true}
use Rattle.std.proofs.lemmas.List.Folds.{list_all-append}
use Rattle.lvdc_place.specs.Slot.{Slot, IsSlot, is_slot, is_same, number_of, slot_at, slot_after, with_syllable}
use Rattle.lvdc_place.specs.Slots.{Slots, set_of, with_slot, with_slots, are_free, slots_at, block_slots, is_free_at}
use Rattle.lvdc_place.specs.declared.block.Kind.{Kind}
use Rattle.lvdc_place.specs.declared.block.Kind.TheVariants.{Code, Words}

-- ---- locations

pub slot_after-zero : (slot : Slot) → slot_after slot 0 ≡ slot
slot_after-zero slot = let same : slot.loc + 0 ≡ slot.loc = omega arith in λ i. record slot { loc = same i }

pub slot_after-slot_after : (slot : Slot) (a b c : ℕ) → a + b ≡ c → slot_after (slot_after slot a) b ≡ slot_after slot c
slot_after-slot_after slot a b c h = let same : slot.loc + a + b ≡ slot.loc + c = omega arith in λ i. record slot { loc = same i }

-- within a sector slots follow each other
pub slot_at-add : (number more : ℕ) → number % 256 + more < 256 → slot_at (number + more) ≡ slot_after (slot_at number) more
slot_at-add number more h =
    let pair : (number + more) / 8192 ≡ number / 8192 = omega arith in
    let sector : (number + more) / 512 % 16 ≡ number / 512 % 16 = omega arith in
    let syl : (number + more) / 256 % 2 ≡ number / 256 % 2 = omega arith in
    let loc : (number + more) % 256 ≡ number % 256 + more = omega arith in
    λ i. record { pair = pair i; sector = sector i; syl = syl i; loc = loc i }

pub slot_at-number_of : (slot : Slot) → IsSlot slot → slot_at (number_of slot) ≡ slot
slot_at-number_of slot h =
    let pair : number_of slot / 8192 ≡ slot.pair = omega (arith, h.pair, h.sector, h.syl, h.loc) in
    let sector : number_of slot / 512 % 16 ≡ slot.sector = omega (arith, h.pair, h.sector, h.syl, h.loc) in
    let syl : number_of slot / 256 % 2 ≡ slot.syl = omega (arith, h.pair, h.sector, h.syl, h.loc) in
    let loc : number_of slot % 256 ≡ slot.loc = omega (arith, h.pair, h.sector, h.syl, h.loc) in
    λ i. record { pair = pair i; sector = sector i; syl = syl i; loc = loc i }

-- ---- the slots of a block

pub with_slots-append : (taken : Slots) (xs ys : List Slot) → with_slots taken (xs ++ ys) ≡ with_slots (with_slots taken xs) ys
with_slots-append taken [] ys = refl
with_slots-append taken (x ∷ xs) ys = with_slots-append (with_slot taken x) xs ys

-- one more location is taken
pub with_slots-more : (taken : Slots) (kind : Kind) (size offset : ℕ) (first : Slot) → offset < size →
    with_slots (with_slots taken (slots_at kind (slot_after first offset))) (block_slots kind (size - (offset + 1)) (slot_after first (offset + 1)))
    ≡ with_slots taken (block_slots kind (size - offset) (slot_after first offset))
with_slots-more taken kind size offset first h =
    let left : size - offset ≡ suc (size - (offset + 1)) = omega arith in
    sym (ap (λ n. with_slots taken (block_slots kind n (slot_after first offset))) left
    ∙ with_slots-append taken (slots_at kind (slot_after first offset)) (block_slots kind (size - (offset + 1)) (slot_after (slot_after first offset) 1))
    ∙ ap (λ (slot : Slot). with_slots (with_slots taken (slots_at kind (slot_after first offset))) (block_slots kind (size - (offset + 1)) slot)) (slot_after-slot_after first offset 1 (offset + 1) refl))

-- a location of a block
pub record IsFreeTo (taken : Slots) (kind : Kind) (first : Slot) (count : ℕ) : Type 0 where
  pub free : (k : ℕ) → k < count → are_free taken (slots_at kind (slot_after first k)) ≡ true

-- a block is free where each location is
pub free-all : (taken : Slots) (kind : Kind) (size : ℕ) (first : Slot) → IsFreeTo taken kind first size → are_free taken (block_slots kind size first) ≡ true
free-all taken kind zero first h = refl
free-all taken kind (suc size) first h =
    list_all-append (λ slot. not (taken slot)) (slots_at kind first) (block_slots kind size (slot_after first 1))
    ∙ and_from (are_free taken (slots_at kind first)) (are_free taken (block_slots kind size (slot_after first 1)))
    (ap (λ (slot : Slot). are_free taken (slots_at kind slot)) (sym (slot_after-zero first)) ∙ h.free 0 (omega arith))
    (free-all taken kind size (slot_after first 1) (record { free = λ k below. ap (λ (slot : Slot). are_free taken (slots_at kind slot)) (slot_after-slot_after first 1 k (k + 1) (omega arith)) ∙ h.free (k + 1) (omega arith) }))

-- the first location of a free block, and the others
free-parts : (taken : Slots) (kind : Kind) (size : ℕ) (first : Slot) → are_free taken (block_slots kind (suc size) first) ≡ true →
    (are_free taken (slots_at kind first) ≡ true) × (are_free taken (block_slots kind size (slot_after first 1)) ≡ true)
free-parts taken kind size first h =
    and_parts (are_free taken (slots_at kind first)) (are_free taken (block_slots kind size (slot_after first 1)))
    (sym (list_all-append (λ slot. not (taken slot)) (slots_at kind first) (block_slots kind size (slot_after first 1))) ∙ h)

-- each location of a free block is free
pub free-at : (taken : Slots) (kind : Kind) (size : ℕ) (first : Slot) (k : ℕ) → k < size → are_free taken (block_slots kind size first) ≡ true → are_free taken (slots_at kind (slot_after first k)) ≡ true
free-at taken kind zero first k below h = absurd (omega arith)
free-at taken kind (suc size) first zero below h =
    ap (λ (slot : Slot). are_free taken (slots_at kind slot)) (slot_after-zero first) ∙ (free-parts taken kind size first h).0
free-at taken kind (suc size) first (suc k) below h =
    ap (λ (slot : Slot). are_free taken (slots_at kind slot)) (sym (slot_after-slot_after first 1 k (suc k) (omega arith)))
    ∙ free-at taken kind size (slot_after first 1) k (omega arith) (free-parts taken kind size first h).1

-- a block with a location that isn't free isn't
pub taken-at : (taken : Slots) (kind : Kind) (size : ℕ) (first : Slot) (k : ℕ) → k < size → are_free taken (slots_at kind (slot_after first k)) ≡ false → are_free taken (block_slots kind size first) ≡ false
taken-at taken kind size first k below h =
    false_from_ne_true (are_free taken (block_slots kind size first)) (λ free. true≢false (sym (free-at taken kind size first k below free) ∙ h))

-- ---- more slots that are taken

-- what is taken stays taken
pub with_slots-keeps : (taken : Slots) (more : List Slot) (slot : Slot) → taken slot ≡ true → with_slots taken more slot ≡ true
with_slots-keeps taken [] slot h = h
with_slots-keeps taken (one ∷ more) slot h = with_slots-keeps (with_slot taken one) more slot (or_left (taken slot) (is_same slot one) h)

-- what is free was free before
pub free-before : (taken : Slots) (more : List Slot) (slots : List Slot) → are_free (with_slots taken more) slots ≡ true → are_free taken slots ≡ true
free-before taken more [] h = refl
free-before taken more (slot ∷ slots) h =
    let both = and_parts (not (with_slots taken more slot)) (are_free (with_slots taken more) slots) h in
    let here : taken slot ≡ false = false_from_ne_true (taken slot) (λ t. true≢false (sym (with_slots-keeps taken more slot t) ∙ not-true (with_slots taken more slot) both.0)) in
    and_from (not (taken slot)) (are_free taken slots) (not_from_false (taken slot) here) (free-before taken more slots both.1)

-- where a block isn't free, it isn't later
pub never-free : (taken now : Slots) (more : List Slot) (kind : Kind) (size number : ℕ) → now ≡ with_slots taken more →
    is_free_at taken kind size number ≡ false → is_free_at now kind size number ≡ false
never-free taken now more kind size number is h = rw is (false_from_ne_true (is_free_at (with_slots taken more) kind size number)
    (λ free. true≢false (sym (free-before taken more (block_slots kind size (slot_at number)) free) ∙ h)))

-- ---- the end of a sector

-- what is no slot is taken
pub record IsClosed (taken : Slots) : Type 0 where
  pub outside : (slot : Slot) → is_slot slot ≡ false → taken slot ≡ true

pub closed-set_of : (bits : List Bool) → IsClosed (set_of bits)
closed-set_of bits = record { outside = λ slot h. rw h refl }

no_slot : (slot : Slot) → 256 ≤ slot.loc → is_slot slot ≡ false
no_slot slot h = and_right (nat_lt slot.pair 4 && nat_lt slot.sector 16 && nat_lt slot.syl 2) (nat_lt slot.loc 256) (le-ltb slot.loc 256 h)

-- no line stands past it
pub taken-past : (taken : Slots) (kind : Kind) (slot : Slot) → IsClosed taken → 256 ≤ slot.loc → are_free taken (slots_at kind slot) ≡ false
taken-past taken Code slot closed h = rw (closed.outside slot (no_slot slot h)) refl
taken-past taken (Words home) slot closed h = rw (closed.outside (with_syllable slot 0) (no_slot (with_syllable slot 0) h)) refl

-- no block above 256 locations is free anywhere
pub none-large : (taken : Slots) (kind : Kind) (size number : ℕ) → IsClosed taken → 256 < size → is_free_at taken kind size number ≡ false
none-large taken kind size number closed large =
    let k : ℕ = 256 - number % 256 in
    taken-at taken kind size (slot_at number) k (omega arith) (taken-past taken kind (slot_after (slot_at number) k) closed (omega arith))

-- ---- a search

-- where a run of free locations ends too early, no block of that size stands before its end
pub none-before : (taken : Slots) (kind : Kind) (size number run p : ℕ) → number % 256 + run ≤ 256 → run < size →
    are_free taken (slots_at kind (slot_after (slot_at number) run)) ≡ false → number ≤ p → p < number + max run 1 → is_free_at taken kind size p ≡ false
none-before taken kind size number run p within short ends low high =
    let j : ℕ = p - number in
    let at : number + j ≡ p = omega arith in
    let inside : number % 256 + j < 256 = omega arith in
    let reach : j + (run - j) ≡ run = omega arith in
    ap (is_free_at taken kind size) (sym at)
    ∙ ap (λ (slot : Slot). are_free taken (block_slots kind size slot)) (slot_at-add number j inside)
    ∙ taken-at taken kind size (slot_after (slot_at number) j) (run - j) (omega arith)
    (ap (λ (slot : Slot). are_free taken (slots_at kind slot)) (slot_after-slot_after (slot_at number) j (run - j) run reach) ∙ ends)
