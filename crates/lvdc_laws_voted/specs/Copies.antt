-- The copies that are not wrong equal one state.
use Rattle.std.specs.Prelude.{◌≡◌, ℕ, zero, suc, ◌+◌, Bool, false, List, [], ◌∷◌, length}
use Rattle.lvdc_vote.specs.Copies.{Copies, IsSized}
use Rattle.lvdc_fault.specs.Script.{is_wrong, are_two}
use Rattle.lvdc_fault.specs.declared.event.Event.{Event}

-- of the three copies of a module those that are not wrong, at least two, are the state; all three have its length
pub record ModuleAgrees (wrong : ℕ → Bool) (t : Copies) (state : List ℕ) : Type 0 where
  pub two : are_two wrong ≡ false
  pub first : wrong 1 ≡ false → t.one ≡ state
  pub second : wrong 2 ≡ false → t.two ≡ state
  pub third : wrong 3 ≡ false → t.three ≡ state
  pub sized : IsSized (length state) t

-- so of each module, from the module m on
abbrev pub Agree : (ℕ → ℕ → Bool) → ℕ → List Copies → List (List ℕ) → Type 0
Agree wrong m [] [] = Unit {0}
Agree wrong m [] (state ∷ states) = ⊥
Agree wrong m (t ∷ ts) [] = ⊥
Agree wrong m (t ∷ ts) (state ∷ states) = ModuleAgrees (wrong m) t state × Agree wrong (m + 1) ts states

-- which copies may differ before a step: none before the first, later those that were wrong in the last step
abbrev pub wrong_before : List Event → ℕ → ℕ → ℕ → Bool
wrong_before script zero m c = false
wrong_before script (suc step) m c = is_wrong script step m c
