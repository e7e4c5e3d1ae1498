-- What is stuck at a place of a twin, and which twin is dead, under what a script puts in force in a step; and which of its events do so.
use Rattle.std.specs.Prelude.{ℕ, ◌&&◌, ◌==◌, Bool, false, List}
use Rattle.std.specs.declared.option.Option.{Option}
use Rattle.std.specs.declared.option.Option.TheVariants.{None, Some}
use Rattle.lvdc_map.specs.Address.{Spot, is_same}
use Rattle.lvdc_twin.specs.Store.{nothing}
use Rattle.lvdc_twin.specs.declared.stuck.Stuck.{Stuck}
use Rattle.lvdc_fault.specs.Damage.{stuck, is_dead}
use Rattle.lvdc_fault.specs.declared.event.Event.{Event}
use Rattle.lvdc_fault.specs.declared.event.Event.TheVariants.{Stick, Dead}

-- what is stuck at a place of a twin, where what a step of the script sticks is in force
abbrev pub stuck_since : Option ℕ → List Event → ℕ → Spot → Stuck
stuck_since None script twin place = nothing
stuck_since (Some step) script twin place = stuck script step twin place

-- the same of dead twins
abbrev pub is_dead_since : Option ℕ → List Event → ℕ → ℕ → Bool
is_dead_since None script twin pair = false
is_dead_since (Some step) script twin pair = is_dead script step twin pair

-- does an event stick bits at a place of a twin?
abbrev pub sticks_at : ℕ → Spot → Event → Bool
sticks_at twin place (Stick w at first last mask value) = w == twin && is_same place at
sticks_at twin place _ = false

-- does an event kill a twin of a pair?
abbrev pub kills_in : ℕ → ℕ → Event → Bool
kills_in twin pair (Dead w p first last) = w == twin && p == pair
kills_in twin pair _ = false
