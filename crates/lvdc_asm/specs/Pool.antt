-- The pooled words of literals.
use Rattle.std.specs.Prelude.{ℕ, Bool, ◌==◌, ◌&&◌, List, [], ◌∷◌, ◌++◌, Option, None, Some, Result, Ok, Err}
use Rattle.std.specs.Map.{lookup}
use Rattle.lvdc_map.specs.Address.{Spot}
use Rattle.lvdc_place.specs.Slots.{Slots, pool_place, with_word as with_taken}
use Rattle.lvdc_place.specs.declared.fault.PlaceFault.TheVariants.{NoRoom}
use Rattle.lvdc_asm.specs.DataPlace.{DataPlace}
use Rattle.lvdc_asm.specs.Locations.{Locations, with_word}
use Rattle.lvdc_asm.specs.declared.fault.AsmFault.{AsmFault}
use Rattle.lvdc_asm.specs.declared.fault.AsmFault.TheVariants.{Place}
use Rattle.lvdc_asm.specs.declared.pool.Literal.{Literal}

-- two literals of one value in one pair and sector
abbrev pub is_same_literal : Literal → Literal → Bool
is_same_literal a b = a.pair == b.pair && (a.sector == b.sector && a.word == b.word)

-- the literal of a word where this data place is assumed
abbrev pub literal_of : DataPlace → ℕ → Literal
literal_of assumed w = record { pair = assumed.pair; sector = assumed.sector; word = w }

-- what has been assembled so far: the locations filled, the pooled words in the order of their first use, each with its
-- address, and the slots that are taken
pub record Progress : Type 0 where
  pub locations : Locations
  pub pool : List (Literal × Spot)
  pub taken : Slots

-- where a literal stands, and what has been assembled with it
pub record LiteralPlace : Type 0 where
  pub at : Spot
  pub progress : Progress

-- a new word of the pool stands here
abbrev pub with_pooled : Progress → Literal → Spot → Progress
with_pooled progress literal at =
    record {
      locations = with_word progress.locations at literal.word;
      pool = progress.pool ++ (literal, at) ∷ [];
      taken = with_taken progress.taken (Some at);
    }

-- a literal that isn't in the pool takes the least room of its sector, or there is none for its line
abbrev pub new_place : ℕ → Progress → Literal → Option Spot → Result LiteralPlace AsmFault
new_place line progress literal None = Err (Place (NoRoom line))
new_place line progress literal (Some at) = Ok (record { at = at; progress = with_pooled progress literal at })

-- a literal that is in the pool is used again
abbrev pub place_by : ℕ → Progress → Literal → Option Spot → Result LiteralPlace AsmFault
place_by line progress literal (Some at) = Ok (record { at = at; progress = progress })
place_by line progress literal None = new_place line progress literal (pool_place progress.taken literal.pair literal.sector)

-- a literal of a line is stored
abbrev pub literal_place : ℕ → Progress → Literal → Result LiteralPlace AsmFault
literal_place line progress literal = place_by line progress literal (lookup (is_same_literal literal) progress.pool)
