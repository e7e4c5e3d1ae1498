-- Where in a list the device at a port stands.
use Rattle.std.specs.Prelude.{◌≡◌, ◌≢◌, ℕ, List, [], ◌∷◌, zero, suc}
use Rattle.lvdc_port.specs.Device.{Device}

-- no device of the list has this port
abbrev pub NoneHas : {B : Type 0} → (B → Device) → ℕ → List B → Type 0
NoneHas device_of port [] = Unit {0}
NoneHas device_of port (device ∷ devices) = ((device_of device).port ≢ port) × NoneHas device_of port devices

-- the list has no device at this port
pub record Lacks {B : Type 0} (device_of : B → Device) (port : ℕ) (devices : List B) : Type 0 where
  pub none : NoneHas device_of port devices

-- the device at this place has this port, and none before it has
abbrev pub FirstHas : {B : Type 0} → (B → Device) → ℕ → List B → ℕ → Type 0
FirstHas device_of port [] place = ⊥
FirstHas device_of port (device ∷ devices) zero = (device_of device).port ≡ port
FirstHas device_of port (device ∷ devices) (suc place) =
    ((device_of device).port ≢ port) × FirstHas device_of port devices place

-- the first device at this port stands at this place
pub record IsFirstAt {B : Type 0} (device_of : B → Device) (port : ℕ) (devices : List B) (place : ℕ) : Type 0 where
  pub first : FirstHas device_of port devices place
