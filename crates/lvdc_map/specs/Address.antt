-- Addresses of memory: a bank, a sector and a location.
use Rattle.std.specs.Prelude.{ℕ, ◌+◌, ◌*◌, ◌/◌, ◌%◌, ◌<◌, Bool, ◌==◌, ◌&&◌}

-- where a word of memory stands; the field `pair` is the bank
pub record Spot : Type 0 where
  pub pair : ℕ
  pub sector : ℕ
  pub loc : ℕ

-- the three numbers are in their ranges
pub record IsAddress (at : Spot) : Type 0 where
  pub pair : at.pair < 8
  pub sector : at.sector < 16
  pub loc : at.loc < 256

-- two addresses are the same where their three numbers are
abbrev pub is_same : Spot → Spot → Bool
is_same a b = a.pair == b.pair && a.sector == b.sector && a.loc == b.loc

-- the number of an address in the order of all
abbrev pub number_of : Spot → ℕ
number_of at = at.pair * 4096 + at.sector * 256 + at.loc

-- the address at a place in the order of all
abbrev pub spot_at : ℕ → Spot
spot_at number = record { pair = number / 4096; sector = number / 256 % 16; loc = number % 256 }
