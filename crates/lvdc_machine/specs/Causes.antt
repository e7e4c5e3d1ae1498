-- What the end of a call says of the devices' counts of faults.
use Rattle.std.specs.Prelude.{◌≡◌, ℕ, List, Bool, true, map}
use Rattle.lvdc_port.specs.Device as device
use Rattle.lvdc_port.specs.Devices.{has_port, count_at}
use Rattle.lvdc_plain.specs.Stands.{FailedAlone}
use Rattle.lvdc_model.specs.declared.outcome.Outcome.{Outcome}
use Rattle.lvdc_model.specs.declared.outcome.Outcome.TheVariants.{Done, Stopped, Inadmissible, Device}

-- a failure has its cause in the device that it names, and in it alone; with every other end no count has grown of a device
-- that is left
abbrev pub Caused : Outcome → (ℕ → ℕ) → (ℕ → ℕ) → (ℕ → Bool) → Type 0
Caused Done before after left = (port : ℕ) → left port ≡ true → after port ≡ before port
Caused (Stopped step stop) before after left = (port : ℕ) → left port ≡ true → after port ≡ before port
Caused (Inadmissible verdict) before after left = (port : ℕ) → left port ≡ true → after port ≡ before port
Caused (Device step port) before after left = FailedAlone port before after left

-- an end has its cause in the counts of faults of these devices, before and after
abbrev pub EndHasCause : {B : Type 0} → (B → device.Device) → (B → ℕ) → Outcome → List B → List B → Type 0
EndHasCause device_of count end old new =
    Caused end (λ port. count_at device_of count port old) (λ port. count_at device_of count port new) (λ port. has_port device_of port new)

-- the device at this port has failed, and it alone, and no device has changed otherwise
pub record Fails {B : Type 0} (device_of : B → device.Device) (count : B → ℕ) (port : ℕ) (old new : List B) : Type 0 where
  pub states : map device_of new ≡ map device_of old
  pub alone : FailedAlone port (λ p. count_at device_of count p old) (λ p. count_at device_of count p new) (λ p. has_port device_of p new)
