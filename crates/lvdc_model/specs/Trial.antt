-- A trial: an opening, and the script of faults under which the voted machine runs it.
use Rattle.std.specs.Prelude.{ℕ, ◌/◌, ◌%◌, ◌==◌, if◌then◌else◌, List, [], ◌∷◌, slice_index_or}
use Rattle.std.specs.declared.option.Option.{Option}
use Rattle.std.specs.declared.option.Option.TheVariants.{None}
use Rattle.lvdc_map.specs.Address.{Spot}
use Rattle.lvdc_map.specs.declared.placed.Placed.{Placed}
use Rattle.lvdc_port.specs.Device.{Device}
use Rattle.lvdc_plain.specs.Accesses as accesses
use Rattle.lvdc_plain.specs.Plain.{PlainState}
use Rattle.lvdc_plain.specs.Run.{Opening, plugged, run}
use Rattle.lvdc_plain.specs.declared.records.Unplug.{Unplug}
use Rattle.lvdc_fault.specs.declared.event.Event.{Event}

-- what a voted run depends on, as plain data
pub record Trial : Type 0 where
  pub opening : Opening
  pub script : List Event

-- the plain state after so many whole times; it knows no script
abbrev pub plain_at : Trial → ℕ → PlainState
plain_at o k = (run o.opening k).plain

-- the plain state with which the time of a step begins: a time has three steps
abbrev pub plain_in : Trial → ℕ → PlainState
plain_in o step = (run o.opening (step / 3)).plain

-- the devices without those that are taken away at the time of a step
abbrev pub plugged_at : List Unplug → ℕ → List Device → List Device
plugged_at unplugs step devices = plugged unplugs (step / 3) devices

-- the devices that are left once a step is begun: the first step of a time takes away those of its time
abbrev pub devices_left : List Unplug → ℕ → List Device → List Device
devices_left unplugs step devices = if step % 3 == 0 then plugged_at unplugs step devices else devices

-- the devices of the plain run in a step that is begun: those after the whole times before it, without those taken away at its time
abbrev pub plugged_in : Trial → ℕ → List Device
plugged_in o step = plugged o.opening.unplugs (step / 3) (run o.opening (step / 3)).devices

-- what the plain run reads of memory in a step: in the first of a time the instruction, in the second the operand
abbrev pub read_at : Trial → ℕ → Option Spot
read_at o step = let p = plain_in o step in slice_index_or (accesses.fetched p ∷ accesses.operand p ∷ []) (step % 3) None

-- what it stores in a step: nothing in the first two of a time
abbrev pub store_at : Trial → ℕ → Option Placed
store_at o step = slice_index_or (None ∷ None ∷ []) (step % 3) (accesses.store (plain_in o step))

-- ---- for the laws

-- what a plain state reads of memory in a phase of the time that it begins: in A the instruction, in B the operand
abbrev pub read_in_phase : ℕ → PlainState → Option Spot
read_in_phase phase p = slice_index_or (accesses.fetched p ∷ accesses.operand p ∷ []) phase None

-- what it stores in a phase: only C stores
abbrev pub store_in_phase : ℕ → PlainState → Option Placed
store_in_phase phase p = slice_index_or (None ∷ None ∷ []) phase (accesses.store p)
