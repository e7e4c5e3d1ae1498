-- When a result lands: in one phase of all that follow, or in none.
use Rattle.std.specs.Prelude.{◌≡◌, ℕ, suc, ◌≤◌, ◌<◌}
use Rattle.std.specs.declared.option.Option.TheVariants.{None, Some}
use Rattle.lvdc_mul.specs.Latches.{Latches}
use Rattle.lvdc_mul.specs.Unit.{after_phases, lands_of}

-- of the phases that follow, counted from 1, this one lands this result, and no other one lands any
pub record LandsOnlyIn (phase : ℕ) (result : ℕ) (u : Latches) : Type 0 where
  pub before : (n : ℕ) → suc n < phase → lands_of (after_phases n u) ≡ None
  pub then : (n : ℕ) → suc n ≡ phase → lands_of (after_phases n u) ≡ Some result
  pub after : (n : ℕ) → phase ≤ n → lands_of (after_phases n u) ≡ None

-- no phase that follows lands anything
pub record LandsNever (u : Latches) : Type 0 where
  pub never : (n : ℕ) → lands_of (after_phases n u) ≡ None
