-- A machine that has said something against a step goes on with it, through every fault.
use Rattle.std.specs.Prelude.{◌≡◌, ◌≢◌, ℕ, ◌+◌, ◌*◌, ◌≤◌, ◌<◌, true, List, length, map}
use Rattle.std.specs.declared.option.Option.{Option}
use Rattle.std.specs.declared.option.Option.TheVariants.{None, Some}
use Rattle.lvdc_port.specs.Device as device
use Rattle.lvdc_port.specs.Devices.{has_port}
use Rattle.lvdc_plain.specs.Lists.{AreFit}
use Rattle.lvdc_fault.specs.declared.verdict.Verdict.{Verdict}
use Rattle.lvdc_model.specs.Trial.{Trial}
use Rattle.lvdc_model.specs.Voted.{Voted}
use Rattle.lvdc_model.specs.declared.outcome.Outcome.{Outcome}
use Rattle.lvdc_model.specs.declared.outcome.Outcome.TheVariants.{Done, Stopped, Inadmissible, Device}
use Rattle.lvdc_machine.specs.Causes.{EndHasCause}
use Rattle.lvdc_machine.specs.Resumed.{steps_since, StandsFrom}
use Rattle.lvdc_machine.specs.Room.{exchanges_to_come}
use Rattle.lvdc_machine.specs.View.{View, answer_of_end}
use Rattle.lvdc_machine.specs.declared.mode.Mode.TheVariants.{Guarded, Through}
use Rattle.lvdc_machine.specs.declared.mode.Pace.TheVariants.{ByStep}

-- the end is what was said against a step
abbrev pub IsRefusal : Option Outcome → Type 0
IsRefusal None = ⊥
IsRefusal (Some Done) = ⊥
IsRefusal (Some (Stopped step stop)) = ⊥
IsRefusal (Some (Inadmissible verdict)) = Unit {0}
IsRefusal (Some (Device step port)) = ⊥

-- a machine that judges has said something against the step that it has begun, which is one of those that are left, and its log has no
-- more lines than steps were made
pub record HasRefused (m : View) : Type 0 where
  pub refusal : IsRefusal m.end
  pub mode : m.mode ≡ Guarded
  pub few : length m.log ≤ m.steps
  pub begun : m.on_memory.last ≡ Some m.steps
  pub left : m.steps < 3 * m.limit

-- what stays of a machine that goes through every fault from then on, with the room of one that does
pub record Turns (before after : View) : Type 0 where
  pub banks : after.banks ≡ before.banks
  pub script : after.script ≡ before.script
  pub unplugs : after.unplugs ≡ before.unplugs
  pub limit : after.limit ≡ before.limit
  pub mode : after.mode ≡ Through
  pub pace : after.pace ≡ ByStep

-- from each state of each trial in which no end had come, and from which it stood, the machine stands after so many steps of the run
-- through every fault in all, those counted that were behind that state
abbrev pub StandsThrough : ℕ → View → View → List device.Device → List device.Device → Type 0
StandsThrough steps before after old new =
    (o : Trial) (first : Voted) (n : ℕ) → first.end ≡ None → StandsFrom o first n before old → StandsFrom o first (steps_since first.steps steps) after new

-- the step that something was said against is made, or a device failed in it
pub record MakesRefused {B : Type 0} (device_of : B → device.Device) (spare faults : B → ℕ) (before after : View) (old new : List B) : Type 0 where
  pub stands : StandsThrough (before.steps + 1) before after (map device_of old) (map device_of new)
  pub turns : Turns before after
  pub most : after.steps ≤ before.steps + 1
  pub cause : EndHasCause device_of faults (answer_of_end after.end) old new
  pub unjudged : (verdict : Verdict) → after.end ≢ Some (Inadmissible verdict)
  pub left : (port : ℕ) → has_port device_of port new ≡ true → has_port device_of port old ≡ true
  pub fit : AreFit device_of spare (exchanges_to_come after) new

-- that step and all others up to the one of this number are made, or fewer where an end comes, which is answered, has its cause in this
-- call, and is no verdict
pub record GoesThrough {B : Type 0} (device_of : B → device.Device) (spare faults : B → ℕ) (to : ℕ) (end : Outcome) (before after : View) (old new : List B) : Type 0 where
  pub stands : StandsThrough to before after (map device_of old) (map device_of new)
  pub turns : Turns before after
  pub most : after.steps ≤ to
  pub answer : end ≡ answer_of_end after.end
  pub cause : EndHasCause device_of faults end old new
  pub unjudged : (verdict : Verdict) → end ≢ Inadmissible verdict
  pub left : (port : ℕ) → has_port device_of port new ≡ true → has_port device_of port old ≡ true
  pub fit : AreFit device_of spare (exchanges_to_come after) new
