-- A machine that goes on by some steps: where it then stands, what that leaves, and which of them it tells.
use Rattle.std.specs.Prelude.{◌≡◌, ℕ, ◌+◌, ◌-◌, ◌*◌, ◌≤◌, List, IsSome, map}
use Rattle.std.specs.declared.option.Option.{Option}
use Rattle.std.specs.declared.option.Option.TheVariants.{None, Some}
use Rattle.lvdc_port.specs.Device as device
use Rattle.lvdc_model.specs.Trial.{Trial}
use Rattle.lvdc_model.specs.Voted.{Voted}
use Rattle.lvdc_model.specs.declared.outcome.Outcome.{Outcome}
use Rattle.lvdc_model.specs.declared.outcome.Outcome.TheVariants.{Device}
use Rattle.lvdc_machine.specs.Calls.{LeavesAfterSteps}
use Rattle.lvdc_machine.specs.Resumed.{steps_since, StandsFrom}
use Rattle.lvdc_machine.specs.View.{View}
use Rattle.lvdc_machine.specs.declared.mode.Mode.{Mode}
use Rattle.lvdc_debug.specs.Standing.{CausedSince}
use Rattle.lvdc_trace.specs.declared.window.Window.{Window}
use Rattle.lvdc_trace.specs.Traces.{text_from, failed_from}

-- a machine of this mode stands at this state, with so many steps left, and no end has come
pub record IsAt (o : Trial) (begin : Voted) (mode : Mode) (left : ℕ) (m : View) (devices : List device.Device) : Type 0 where
  pub stands : StandsFrom o begin 0 m devices
  pub mode_is : m.mode ≡ mode
  pub left_is : 3 * m.limit - m.steps ≡ left
  pub going : m.end ≡ None

-- a machine goes on by so many steps of its run, from wherever it stands; an end that had come is kept, and one that comes has its
-- cause in the devices' counts of faults
pub record GoesOn {B : Type 0} (device_of : B → device.Device) (spare faults : B → ℕ) (steps : ℕ) (before after : View) (old new : List B) : Type 0 where
  pub stands : (o : Trial) (first : Voted) (n : ℕ) → StandsFrom o first n before (map device_of old) → StandsFrom o first (n + steps) after (map device_of new)
  pub leaves : LeavesAfterSteps device_of spare steps before after old new
  pub kept : IsSome before.end → (after ≡ before) × (new ≡ old)
  pub cause : (first : ℕ → ℕ) → CausedSince device_of faults first before.end old → CausedSince device_of faults first after.end new

-- it goes on by some of so many steps
pub record GoesPart {B : Type 0} (device_of : B → device.Device) (spare faults : B → ℕ) (most : ℕ) (before after : View) (old new : List B) : Type 0 where
  pub steps : ℕ
  pub few : steps ≤ most
  pub goes : GoesOn device_of spare faults steps before after old new

-- of so many steps from one on, both counted from a state that so many steps are behind, those that come before an exchange in which a
-- device failed; without such an end all of them
abbrev pub count_by : Option Outcome → ℕ → ℕ → ℕ → ℕ
count_by (Some (Device step port)) behind from count = steps_since behind step - from
count_by end behind from count = count

-- the trace by the end that was kept: where a device failed, that of the run so far
abbrev pub text_by : Option Outcome → Mode → Trial → Voted → ℕ → Window → List ℕ
text_by (Some (Device step port)) mode o begin left w = failed_from mode o begin w step port
text_by end mode o begin left w = text_from mode o begin left w
