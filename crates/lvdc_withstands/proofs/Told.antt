-- Nothing is told exactly where all is met.
use Rattle.std.proofs.Common.{◌≡◌, Bool, true, false, not, cond, List, [], ◌∷◌, Some, find, refl}
use Rattle.std.specs.Prelude.{is_none, ◌&&◌}
use Rattle.std.specs.List.{list_all}

pub none-unmet : {A : Type 0} (is_met : A → Bool) (conditions : List A) → is_none (find (λ condition. not (is_met condition)) conditions) ≡ list_all is_met conditions
none-unmet is_met [] = refl
none-unmet {A} is_met (condition ∷ conditions) = by_test (is_met condition) (none-unmet is_met conditions)
  where
    by_test : (b : Bool) → is_none (find (λ other. not (is_met other)) conditions) ≡ list_all is_met conditions
        → is_none (cond (not b) (Some condition) (find (λ other. not (is_met other)) conditions)) ≡ (b && list_all is_met conditions)
    by_test true more = more
    by_test false more = refl
