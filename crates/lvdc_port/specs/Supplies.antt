-- Which kinds of device are there, and the words that tapes are given before a run.
use Rattle.std.specs.Prelude.{◌≡◌, ℕ, ◌==◌, if◌then◌else◌, List, [], ◌∷◌, take, map, slice_get, fold, Contains}
use Rattle.std.specs.declared.option.Option.{Option}
use Rattle.std.specs.declared.option.Option.TheVariants.{None, Some}
use Rattle.lvdc_port.specs.Device.{Device, state_after_supply}
use Rattle.lvdc_port.specs.declared.device.Kind.{Kind}
use Rattle.lvdc_port.specs.declared.device.Kind.TheVariants.{Tape, Recorder}
use Rattle.lvdc_port.specs.declared.requests.Supply.{Supply}

-- the kind of the device at this port, where there is one
abbrev pub kind_at : {B : Type 0} → (B → Device) → ℕ → List B → Option Kind
kind_at device_of port [] = None
kind_at device_of port (device ∷ devices) =
    if (device_of device).port == port then Some (device_of device).kind else kind_at device_of port devices

-- the devices after a word was supplied to the one at its port
abbrev pub after_supply_of : Supply → List Device → List Device
after_supply_of supply [] = []
after_supply_of supply (device ∷ devices) =
    if device.port == supply.port then record device { state = state_after_supply device.kind device.state supply.word } ∷ devices
    else device ∷ after_supply_of supply devices

-- the devices after these words were supplied, in their order
abbrev pub supplied : List Supply → List Device → List Device
supplied supplies devices = fold (λ now supply. after_supply_of supply now) devices supplies

-- the first so many of these words were supplied, and no others: the next is for a tape, which found no memory for it
pub record IsSuppliedInPart (supplies : List Supply) (old new : List Device) : Type 0 where
  pub count : ℕ
  pub next : Supply
  pub is_next : slice_get supplies count ≡ Some next
  pub tape : kind_at (λ device. device) next.port new ≡ Some Tape
  pub devices : new ≡ supplied (take count supplies) old

-- the ports of devices
abbrev pub ports_of : List Device → List ℕ
ports_of devices = map (λ device. device.port) devices

-- the kinds of devices
abbrev pub kinds_of : List Device → List Kind
kinds_of devices = map (λ device. device.kind) devices

-- one of the devices is a recorder
abbrev pub HasRecorder : List Device → Type 0
HasRecorder devices = Contains (kinds_of devices) Recorder
