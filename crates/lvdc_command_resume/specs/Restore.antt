-- The devices with which a saved run goes on.
use Rattle.std.specs.Prelude.{◌≡◌, ◌≢◌, ℕ, ◌/◌, ◌==◌, nat_lt, if◌then◌else◌, List, [], ◌∷◌, map, take, slice_get, Bool, true, false}
use Rattle.std.specs.declared.option.Option.{Option}
use Rattle.std.specs.declared.option.Option.TheVariants.{Some}
use Rattle.lvdc_port.specs.Device.{Device, word_of_time}
use Rattle.lvdc_port.specs.Devices.{after_exchange, without, has_port, count_at}
use Rattle.lvdc_port.specs.Supplies.{kind_at, after_supply_of}
use Rattle.lvdc_port.specs.Times.{told_at}
use Rattle.lvdc_port.specs.declared.device.Kind.{Kind}
use Rattle.lvdc_port.specs.declared.device.Kind.TheVariants.{Tape}
use Rattle.lvdc_port.specs.declared.requests.PortRequest.TheVariants.{Write}
use Rattle.lvdc_port.specs.declared.requests.Supply.{Supply}
use Rattle.lvdc_plain.specs.declared.records.Unplug.{Unplug}
use Rattle.lvdc_reply.specs.Replies.{Quiet, RoseAt, OthersQuiet}
use Rattle.lvdc_save.specs.declared.saved.Saved.{Saved}
use Rattle.lvdc_command_resume.specs.declared.restore.Unrestored.{Unrestored}
use Rattle.lvdc_command_resume.specs.declared.restore.Unrestored.TheVariants.{NoMemory, Failed}

-- ---- unplugging

-- the devices that are left once so many times were made: each line of an earlier time has taken its device away
abbrev pub left_before : List Unplug → ℕ → List Device → List Device
left_before [] times devices = devices
left_before (line ∷ lines) times devices =
    left_before lines times (if nat_lt line.time times then without (λ device. device) line.port devices else devices)

-- those that are left of these in a saved state
abbrev pub left_of : Saved → List Device → List Device
left_of s devices = left_before s.unplugs (s.snapshot.steps / 3) devices

-- ---- their words

-- a tape is supplied with a word of its state; to a device of another kind it is written
abbrev pub after_state_by : Option Kind → Supply → List Device → List Device
after_state_by (Some Tape) state devices = after_supply_of state devices
after_state_by kind state devices = after_exchange (Write state.port state.word) devices

-- the devices after a word of the state of the one at its port
abbrev pub after_state : Supply → List Device → List Device
after_state state devices = after_state_by (kind_at (λ device. device) state.port devices) state devices

-- the devices after these words, in their order
abbrev pub with_states : List Supply → List Device → List Device
with_states [] devices = devices
with_states (state ∷ states) devices = with_states states (after_state state devices)

-- the devices in a saved state: those that are left of these, with the words that it names
abbrev pub devices_of : Saved → List Device → List Device
devices_of s devices = with_states s.states (left_of s devices)

-- the time at which these words are written and the run goes on, as a device is told it
abbrev pub time_of : Saved → ℕ
time_of s = word_of_time (s.snapshot.steps / 3)

-- ---- the time that they are told

-- one of these words is for this port
abbrev pub has_word : ℕ → List Supply → Bool
has_word port [] = false
has_word port (state ∷ states) = if state.port == port then true else has_word port states

-- one of them is written to a device of this kind at this port: a tape is supplied with its words
abbrev pub is_written : Option Kind → ℕ → List Supply → Bool
is_written (Some Tape) port states = false
is_written kind port states = has_word port states

-- Each device that is left was told this time with the last word that was written to it, where it looks at the time of a write. One to
-- which none was written keeps what it was told.
pub record WereTold {B : Type 0} (device_of : B → Device) (told : B → ℕ) (time : ℕ) (states : List Supply) (old new : List B) : Type 0 where
  pub times : (port : ℕ) → has_port device_of port new ≡ true → count_at device_of told port new
      ≡ (if is_written (kind_at device_of port new) port states then told_at time (count_at device_of told port old)
      else count_at device_of told port old)

-- ---- words that weren't taken

-- the device at this port, which is no tape, has failed, and no other that is left
pub record HasFailed {B : Type 0} (device_of : B → Device) (faults : B → ℕ) (port : ℕ) (old new : List B) : Type 0 where
  pub kind : kind_at (λ device. device) port (map device_of new) ≢ Some Tape
  pub rose : RoseAt device_of faults port old new
  pub others : OthersQuiet device_of faults port old new

-- why the device at this port hasn't taken a word: there was no memory, and no count has grown; or it has failed
abbrev pub HasRefused : {B : Type 0} → (B → Device) → (B → ℕ) → ℕ → Unrestored → List B → List B → Type 0
HasRefused device_of faults port NoMemory old new = Quiet device_of faults old new
HasRefused device_of faults port (Failed named) old new = (named ≡ port) × HasFailed device_of faults port old new

-- devices that stood so have taken the first so many of these words
pub record HaveTaken (states : List Supply) (start now : List Device) : Type 0 where
  pub count : ℕ
  pub devices : now ≡ with_states (take count states) start

-- they have taken the words before one at which the device at this port has failed
pub record HaveFailedAt {B : Type 0} (device_of : B → Device) (faults : B → ℕ) (states : List Supply) (start : List Device) (port : ℕ) (old new : List B) : Type 0 where
  pub index : ℕ
  pub word : ℕ
  pub next : slice_get states index ≡ Some (record { port = port; word = word })
  pub devices : map device_of new ≡ with_states (take index states) start
  pub failed : HasFailed device_of faults port old new

-- why devices that stood so haven't taken all of these words
abbrev pub HaveRefused : {B : Type 0} → (B → Device) → (B → ℕ) → List Supply → List Device → Unrestored → List B → List B → Type 0
HaveRefused device_of faults states start NoMemory old new = HaveTaken states start (map device_of new) × Quiet device_of faults old new
HaveRefused device_of faults states start (Failed port) old new = HaveFailedAt device_of faults states start port old new
