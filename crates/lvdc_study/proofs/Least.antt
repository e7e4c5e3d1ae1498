-- The least address whose words differ, found address by address.
use Rattle.std.proofs.Common.{◌≡◌, ℕ, zero, suc, ◌+◌, ◌<◌, Bool, true, false, nat_lt, refl, sym, ap, ◌∙◌, arith, add-one}
use Rattle.std.proofs.lemmas.Bool.Decides.{nat_tests}
use Rattle.std.specs.declared.option.Option.{Option}
use Rattle.std.specs.declared.option.Option.TheVariants.{None, Some}
use Rattle.lvdc_map.specs.Address.{Spot, spot_at}
use Rattle.lvdc_map.specs.Memory.{Memory}
use Rattle.lvdc_runs.specs.Same.{is_same_word}
use Rattle.lvdc_study.specs.Outcomes.{least_by, least_below}

module _ (banks : ℕ) (one other : Memory) where
  pub least-none : least_below banks one other 0 ≡ None
  unfolding least_below
  least-none = refl

  pub least-more : (n : ℕ) → least_below banks one other n ≡ None → is_same_word banks one other (spot_at n) ≡ true
      → least_below banks one other (n + 1) ≡ None
  unfolding least_below
  least-more n before here = rw add-one (λ i. least_by (before i) (here i) (spot_at n))

  -- addresses in a row whose words are the same
  pub least-same : (n more : ℕ) → ((i : ℕ) → i < more → is_same_word banks one other (spot_at (n + i)) ≡ true) → least_below banks one other n ≡ None
      → least_below banks one other (n + more) ≡ None
  least-same n zero same before = let at : n + zero ≡ n = omega arith in ap (least_below banks one other) at ∙ before
  least-same n (suc more) same before =
      let at : n + suc more ≡ n + more + 1 = omega arith in
      ap (least_below banks one other) at
      ∙ least-more (n + more) (least-same n more (λ i less. same i (omega (arith, less))) before) (same more (omega arith))

  -- the first address whose words differ
  pub least-found : (n k : ℕ) → k < n → least_below banks one other k ≡ None → is_same_word banks one other (spot_at k) ≡ false
      → least_below banks one other n ≡ Some (spot_at k)
  unfolding least_below
  least-found zero k less before differs = absurd (omega (arith, less))
  least-found (suc n) k less before differs = by_place (nat_lt k n) refl (λ below. least-found n k below before differs)
    where
      by_place : (earlier : Bool) → nat_lt k n ≡ earlier → (k < n → least_below banks one other n ≡ Some (spot_at k))
          → least_by (least_below banks one other n) (is_same_word banks one other (spot_at n)) (spot_at n) ≡ Some (spot_at k)
      by_place true e found =
          let below : k < n = grind (arith, nat_tests) in
          ap (λ (l : Option Spot). least_by l (is_same_word banks one other (spot_at n)) (spot_at n)) (found below)
      by_place false e found =
          let last : k ≡ n = grind (arith, nat_tests) in
          sym (ap (λ j. least_by (least_below banks one other j) (is_same_word banks one other (spot_at j)) (spot_at j)) last)
          ∙ (λ i. least_by (before i) (differs i) (spot_at k))
