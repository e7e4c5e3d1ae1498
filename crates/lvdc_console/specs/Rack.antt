-- The devices that the program has at its ports.
use Rattle.std.specs.Prelude.{◌≡◌, ◌≤◌, map, ℕ, zero, suc, nat_lt, if◌then◌else◌, List, [], ◌∷◌, ◌++◌}
use Rattle.lvdc_port.specs.Causes.{never}
use Rattle.lvdc_port.specs.Device.{Device}
use Rattle.lvdc_port.specs.Devices.{NeverFail}
use Rattle.lvdc_port.specs.declared.device.Kind.TheVariants.{Tape, Latch, Ticker, Recorder}

-- ---- one device of each kind, as it is before a run

-- a tape without words
abbrev pub tape_at : ℕ → Device
tape_at port = record { port = port; kind = Tape; state = [] }

-- a latch that holds 0
abbrev pub latch_at : ℕ → Device
latch_at port = record { port = port; kind = Latch; state = 0 ∷ [] }

-- a ticker
abbrev pub ticker_at : ℕ → Device
ticker_at port = record { port = port; kind = Ticker; state = [] }

-- a recorder without words
abbrev pub recorder_at : ℕ → Device
recorder_at port = record { port = port; kind = Recorder; state = [] }

-- ---- the rack

-- what stands at a port: tapes at 000 to 013 octal, latches at 014 and 015, a ticker at 016 and a recorder at 017
abbrev pub device_at : ℕ → Device
device_at port =
    if nat_lt port 0o14 then tape_at port
    else if nat_lt port 0o16 then latch_at port else if nat_lt port 0o17 then ticker_at port else recorder_at port

-- the devices at the first so many ports
abbrev pub devices_below : ℕ → List Device
devices_below zero = []
devices_below (suc port) = devices_below port ++ device_at port ∷ []

-- the sixteen devices
abbrev pub rack : List Device
rack = devices_below 16

-- what stands here is this device, and it never fails
abbrev pub IsUnfailing : {B : Type 0} → (B → Device) → (B → ℕ) → B → Device → Type 0
IsUnfailing device_of faults box device = (device_of box ≡ device) × (faults box ≡ never)

-- the list has the devices at the ports below this one, each as it is before a run, none of which ever fails, and it has room for
-- all sixteen
pub record IsFilled {B : Type 0} (device_of : B → Device) (faults : B → ℕ) (port : ℕ) (devices : List B) (length capacity : ℕ) : Type 0 where
  pub devices_are : map device_of devices ≡ devices_below port
  pub never_fail : NeverFail faults devices
  pub length_is : length ≡ port
  pub room : 16 ≤ capacity
