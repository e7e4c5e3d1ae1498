-- A public lemma file: a list of which one item more is set.
use Rattle.std.proofs.Common.{◌≡◌, ℕ, ◌+◌, ◌<◌, ◌==◌, Bool, true, false, List, length, refl, sym, ◌∙◌, subst, arith, get_or, set}
use Rattle.std.proofs.lemmas.Bool.{eqb-true, eqb-false}
use Rattle.std.proofs.lemmas.List.{get_or-set_same, get_or-set_other}

-- what holds of the items so far, and of one more that is set
pub set_next : {X : Type 0} (P : ℕ → X → Type 0) (xs : List X) (k i : ℕ) (x d : X) → k ≡ i → i < length xs
    → ((n : ℕ) → n < i → P n (get_or xs n d)) → P i x → (n : ℕ) → n < i + 1 → P n (get_or (set xs k x) n d)
set_next P xs k i x d same within before here n below = by (n == i) refl where
  by : (b : Bool) → (n == i) ≡ b → P n (get_or (set xs k x) n d)
  by true e =
      let is : n ≡ i = eqb-true n i e in
      subst (λ j. P n (get_or (set xs j x) n d)) (is ∙ sym same)
      (subst (P n) (sym (get_or-set_same xs n x d (omega (arith, within, is)))) (subst (λ j. P j x) (sym is) here))
  by false e =
      let other = eqb-false n i e in
      subst (P n) (sym (get_or-set_other xs k n x d (λ (z : n ≡ k). other (z ∙ same)))) (before n (omega (arith, below, other)))
