-- The banks of the memory. A pair of modules is duplex, and then both hold the same words, or simplex.
use Rattle.std.specs.Prelude.{◌≡◌, ℕ, ◌+◌, ◌-◌, ◌*◌, ◌/◌, ◌%◌, ◌^◌, ◌<◌, Bool, true, ◌==◌, ◌||◌, nat_lt, if◌then◌else◌, bit_or}
use Rattle.lvdc_map.specs.Address.{Spot}

-- which pairs are simplex: a bit each
abbrev pub is_simplex : ℕ → ℕ → Bool
is_simplex banks pair = banks / 2 ^ pair % 2 == 1

-- the pairs that are simplex in one or the other
abbrev pub union : ℕ → ℕ → ℕ
union one other = bit_or one other

-- the bank that the number of a module means: its pair, and for the odd module of a simplex pair the pair and 4
abbrev pub bank_of : ℕ → ℕ → ℕ
bank_of banks number = if is_simplex banks (number / 2) then number / 2 + 4 * (number % 2) else number / 2

-- a bank from 4 on is there where its pair is simplex
abbrev pub is_there : ℕ → Spot → Bool
is_there banks at = nat_lt at.pair 4 || is_simplex banks (at.pair - 4)

-- an address whose bank is there
pub record HasBank (banks : ℕ) (at : Spot) : Type 0 where
  pub small : at.pair < 8
  pub there : is_there banks at ≡ true

-- a place in the modules of a pair
pub record IsPlace (place : Spot) : Type 0 where
  pub pair : place.pair < 4
  pub sector : place.sector < 16
  pub loc : place.loc < 256

-- the place of an address in the modules of its pair
abbrev pub home : Spot → Spot
home at = record at { pair = at.pair % 4 }

-- both twins hold a bank of a duplex pair; of a simplex pair p twin 0 holds bank p, and twin 1 bank p + 4
abbrev pub holds : ℕ → ℕ → Spot → Bool
holds banks twin at = if is_simplex banks (at.pair % 4) then twin == at.pair / 4 else nat_lt at.pair 4

-- the address that a twin holds at a place
abbrev pub held_at : ℕ → ℕ → Spot → Spot
held_at banks twin place = record place { pair = if is_simplex banks place.pair then place.pair + 4 * twin else place.pair }
