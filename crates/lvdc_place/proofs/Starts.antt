-- How far the memory was looked through, and what was found.
use Rattle.std.proofs.Common.{◌≡◌, ℕ, ◌+◌, ◌-◌, ◌<◌, ◌≤◌, Bool, false, List, get_or, Option, None, Some, sym, ap, ◌∙◌, subst, arith, inl, inr}
use Rattle.std.specs.Prelude.{IfSome}
use Rattle.std.specs.Option.{option_map}
use Rattle.std.proofs.Math.ListN.{set, replicate}
use Rattle.std.proofs.lemmas.Bool.{cases_eq}
use Rattle.std.proofs.lemmas.List.{length-replicate, get_or-replicate, length-set, get_or-set_same, get_or-set_other}
use Rattle.lvdc_place.specs.Slot.{Slot, number_of, slot_at, sector_start}
use Rattle.lvdc_place.specs.Slots.{Slots, set_of, with_slots, is_free_at, least, least_place}
use Rattle.lvdc_place.specs.Search.{StartsAt}
use Rattle.lvdc_place.specs.declared.block.Kind.{Kind}
use Rattle.lvdc_place.specs.declared.block.Kind.TheVariants.{Code, Words}
use Rattle.lvdc_place.proofs.Least.{NonePasses, Finds, least-none, least-finds, least-skip}
use Rattle.lvdc_place.proofs.Runs.{IsClosed, never-free, none-large}

-- nothing was looked for
pub starts-none : (n : ℕ) (bits : List Bool) (starts : List ℕ) → n ≡ 257 → starts ≡ replicate n 0 → StartsAt bits starts
starts-none n bits starts size is = rw is (record {
  size = length-replicate {A = ℕ} n 0 ∙ size;
  passed = λ k number small below. absurd (none k number small below);
})
  where
    none : (k number : ℕ) → k ≤ 256 → number < get_or (replicate n 0) k 0 → ⊥
    none k number small below = omega (arith, get_or-replicate {A = ℕ} n k 0 0 (omega arith))

-- what is found from there on is the least of all
pub least-from : (bits : List Bool) (starts : List ℕ) (size k : ℕ) → size ≤ 256 → k ≡ size → StartsAt bits starts →
    option_map slot_at (least (is_free_at (set_of bits) Code size) (get_or starts k 0) (32768 - get_or starts k 0)) ≡ least_place (set_of bits) Code size
least-from bits starts size k small same old =
    ap (option_map slot_at) (sym (least-skip (is_free_at (set_of bits) Code size) 0 (get_or starts k 0) 32768 (omega arith)
    (record { fails = λ n a b. old.passed size n small (subst (λ j. n < get_or starts j 0) same b) })))

-- it was looked through up to a number
pub starts-more : (bits : List Bool) (starts : List ℕ) (size number : ℕ) → size ≤ 256 → StartsAt bits starts →
    NonePasses (is_free_at (set_of bits) Code size) 0 number → StartsAt bits (set starts size number)
starts-more bits starts size number small old none = record {
  size = length-set {A = ℕ} starts size number ∙ old.size;
  passed = passed;
}
  where
    at : (k : ℕ) → size ≡ k → get_or (set starts size number) k 0 ≡ number
    at k same = ap (λ j. get_or (set starts size number) j 0) (sym same) ∙ get_or-set_same {A = ℕ} starts size number 0 (omega (arith, old.size))

    passed : (k n : ℕ) → k ≤ 256 → n < get_or (set starts size number) k 0 → is_free_at (set_of bits) Code k n ≡ false
    passed k n little below = elim (cases_eq k size) [
      | inl same ↦ ap (λ j. is_free_at (set_of bits) Code j n) same ∙ none.fails n (omega arith) (omega (arith, at k (sym same)))
      | inr other ↦ old.passed k n little (omega (arith, get_or-set_other {A = ℕ} starts size k number 0 other))
    ]

-- more slots were taken
pub starts-taken : (bits now : List Bool) (more : List Slot) (starts : List ℕ) → set_of now ≡ with_slots (set_of bits) more → StartsAt bits starts → StartsAt now starts
starts-taken bits now more starts is old = record {
  size = old.size;
  passed = λ size number small below. never-free (set_of bits) (set_of now) more Code size number is (old.passed size number small below);
}

-- ---- what was found

-- a block above 256 locations has no place
pub least_place-large : (taken : Slots) (kind : Kind) (size : ℕ) → IsClosed taken → 256 < size → least_place taken kind size ≡ None
least_place-large taken Code size closed large =
    ap (option_map slot_at) (least-none (is_free_at taken Code size) 0 32768 (record { fails = λ n a b. none-large taken Code size n closed large }))
least_place-large taken (Words home) size closed large =
    ap (option_map slot_at) (least-none (is_free_at taken (Words home) size) (number_of (sector_start home.pair home.sector)) 256
    (record { fails = λ n a b. none-large taken (Words home) size n closed large }))

-- below the place that was found none passes
pub none-below : (test : ℕ → Bool) (found : Option ℕ) (place : Slot) → Finds test 0 32768 found → option_map slot_at found ≡ Some place → NonePasses test 0 (number_of place)
none-below test None place finds is = absurd (cc)
none-below test (Some n) place finds is =
    let small : n < 32768 = finds.high in
    let same : slot_at n ≡ place = cc in
    let number : number_of place ≡ n = ap number_of (sym same) ∙ number_of-slot_at n small in
    rw number finds.below
  where
    number_of-slot_at : (n : ℕ) → n < 32768 → number_of (slot_at n) ≡ n
    number_of-slot_at n small = omega arith

-- where none was found, none passes
pub none-at-all : (test : ℕ → Bool) (found : Option ℕ) → Finds test 0 32768 found → option_map slot_at found ≡ None → NonePasses test 0 32768
none-at-all test None finds is = finds
none-at-all test (Some n) finds is = absurd (cc)

-- words stand in their sector
pub in-sector : (taken : Slots) (home : Slot) (size : ℕ) → home.sector < 16 →
    IfSome (least_place taken (Words home) size) (λ (place : Slot). (place.pair ≡ home.pair) × (place.sector ≡ home.sector))
in-sector taken home size small = by_found (least test start 256) (least-finds test start 256)
  where
    test : ℕ → Bool
    test = is_free_at taken (Words home) size

    start : ℕ
    start = number_of (sector_start home.pair home.sector)

    by_found : (found : Option ℕ) → Finds (is_free_at taken (Words home) size) (number_of (sector_start home.pair home.sector)) (number_of (sector_start home.pair home.sector) + 256) found →
        IfSome (option_map slot_at found) (λ (place : Slot). (place.pair ≡ home.pair) × (place.sector ≡ home.sector))
    by_found None finds = _
    by_found (Some n) finds = let low = finds.low in let high = finds.high in (omega arith, omega arith)
