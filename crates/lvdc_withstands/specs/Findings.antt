-- What the reads of a run find: the damage that a read meets before a store does.
use Rattle.std.specs.Prelude.{ℕ, zero, suc, Bool, true, false, not, ◌&&◌, ◌==◌, nat_le, if◌then◌else◌, List, [], ◌∷◌, ◌++◌}
use Rattle.std.specs.List.{list_any}
use Rattle.std.specs.declared.option.Option.{Option}
use Rattle.std.specs.declared.option.Option.TheVariants.{None, Some}
use Rattle.lvdc_map.specs.Address.{Spot, is_same}
use Rattle.lvdc_map.specs.Banks.{home}
use Rattle.lvdc_fault.specs.declared.event.Event.{Event}
use Rattle.lvdc_fault.specs.declared.event.Event.TheVariants.{Damage, Stick, Dead}
use Rattle.lvdc_model.specs.Trial.{Trial, read_at}
use Rattle.lvdc_model.specs.declared.repair.Repair.{Repair}
use Rattle.lvdc_withstands.specs.Touches.{touches_from}

-- the step of a read, the address, and the twin that it found bad
pub record Finding : Type 0 where
  pub step : ℕ
  pub at : Spot
  pub twin : ℕ

-- what a REPAIR line names
abbrev pub finding_of : Repair → Finding
finding_of r = record { step = r.step; at = r.at; twin = r.twin }

-- is a line on memory a DAMAGE line?
abbrev pub is_damage_alone : Event → Bool
is_damage_alone (Stick twin at first last mask value) = false
is_damage_alone (Dead twin pair first last) = false
is_damage_alone _ = true

-- does the read of an address in a step meet this line's damage of a twin? it damages the address's place in the step or before it, and
-- in no step since then the plain run has read or stored the word
abbrev pub meets : Trial → ℕ → Spot → ℕ → Event → Bool
meets o step at twin (Damage w place t mask) = w == twin && is_same (home at) place && nat_le t step && not (touches_from o at t step)
meets o step at twin _ = false

-- what the read of an address in a step finds of a twin
abbrev pub found_of : Trial → ℕ → Spot → ℕ → List Finding
found_of o step at twin = if list_any (meets o step at twin) o.script then record { step = step; at = at; twin = twin } ∷ [] else []

-- what a step finds, where it reads
abbrev pub found_in : Trial → ℕ → Option Spot → List Finding
found_in o step None = []
found_in o step (Some at) = found_of o step at 0 ++ found_of o step at 1

-- what so many steps find, in their order
abbrev pub findings : Trial → ℕ → List Finding
findings o zero = []
findings o (suc step) = findings o step ++ found_in o step (read_at o step)
