-- The data place that a source assumes.
use Rattle.std.specs.Prelude.{ℕ}

-- a pair and a sector
pub record DataPlace : Type 0 where
  pub pair : ℕ
  pub sector : ℕ

-- before the first USE
abbrev pub first_data : DataPlace
first_data = record { pair = 0; sector = 1 }
