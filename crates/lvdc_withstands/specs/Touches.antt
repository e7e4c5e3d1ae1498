-- When the plain run reads or stores a word.
use Rattle.std.specs.Prelude.{ℕ, zero, suc, Bool, false, ◌&&◌, ◌||◌, nat_le}
use Rattle.std.specs.declared.option.Option.{Option}
use Rattle.std.specs.declared.option.Option.TheVariants.{None, Some}
use Rattle.lvdc_map.specs.Address.{Spot, is_same}
use Rattle.lvdc_map.specs.declared.placed.Placed.{Placed}
use Rattle.lvdc_model.specs.Trial.{Trial, read_at, store_at}
use Rattle.lvdc_model.specs.CellsBefore.{reads_it}

-- does a store go to this address?
abbrev pub stores_it : Option Placed → Spot → Bool
stores_it None at = false
stores_it (Some s) at = is_same at s.at

-- in this step the plain run reads or stores the word of an address
abbrev pub touches : Trial → ℕ → Spot → Bool
touches o step at = reads_it (read_at o step) at || stores_it (store_at o step) at

-- it does so in some step from the one on and before the other
abbrev pub touches_from : Trial → Spot → ℕ → ℕ → Bool
touches_from o at from zero = false
touches_from o at from (suc step) = touches_from o at from step || (nat_le from step && touches o step at)

-- it does so in some step from the earlier one on and before the later one
abbrev pub touches_between : Trial → Spot → ℕ → ℕ → Bool
touches_between o at one other = touches_from o at one other || touches_from o at other one
