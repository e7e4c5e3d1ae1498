-- What the calls that make a machine, or make steps of it, say of it and its devices.
use Rattle.std.specs.Prelude.{◌≡◌, ◌≢◌, ℕ, ◌+◌, ◌≤◌, true, List, map, IsSome, IsNone}
use Rattle.std.specs.declared.option.Option.TheVariants.{None}
use Rattle.lvdc_port.specs.Device as device
use Rattle.lvdc_port.specs.Devices.{has_port}
use Rattle.lvdc_plain.specs.Lists.{AreFit}
use Rattle.lvdc_fault.specs.declared.verdict.Verdict.{Verdict}
use Rattle.lvdc_plain.specs.Run.{IsOpening}
use Rattle.lvdc_model.specs.Trial.{Trial}
use Rattle.lvdc_model.specs.Voted.{Voted}
use Rattle.lvdc_model.specs.declared.outcome.Outcome.{Outcome}
use Rattle.lvdc_model.specs.declared.outcome.Outcome.TheVariants.{Inadmissible}
use Rattle.lvdc_machine.specs.Causes.{EndHasCause}
use Rattle.lvdc_machine.specs.Resumed.{StandsFrom}
use Rattle.lvdc_machine.specs.Room.{pace_of, exchanges_to_come}
use Rattle.lvdc_machine.specs.Stands.{Stands}
use Rattle.lvdc_machine.specs.Steps.{Keeps}
use Rattle.lvdc_machine.specs.View.{View, answer_of_end}
use Rattle.lvdc_machine.specs.declared.mode.Mode.{Mode}
use Rattle.lvdc_machine.specs.declared.mode.Mode.TheVariants.{Through}
use Rattle.lvdc_machine.specs.declared.mode.Pace.{Pace}
use Rattle.lvdc_machine.specs.declared.start.Start.{Start}

-- ---- a machine that is made

-- the trial that a run starts from, with these devices at the ports
abbrev pub trial_of : Start → List device.Device → Trial
trial_of s devices =
    record {
      opening = record { image = s.image.now; banks = s.banks; start = s.start; unplugs = s.unplugs.items; devices = devices };
      script = s.script;
    }

-- a machine of this mode and this room, which may make so many times in all: so many steps are behind it, and no end has come
pub record IsFresh (mode : Mode) (pace : Pace) (limit steps : ℕ) (m : View) : Type 0 where
  pub mode_is : m.mode ≡ mode
  pub pace_is : m.pace ≡ pace
  pub limit_is : m.limit ≡ limit
  pub steps_are : m.steps ≡ steps
  pub end : m.end ≡ None

-- a machine stands before the first step of this trial, whose opening is one of words
pub record Begins (o : Trial) (mode : Mode) (limit : ℕ) (m : View) (devices : List device.Device) : Type 0 where
  pub opening : IsOpening o.opening
  pub stands : Stands o 0 m devices
  pub fresh : IsFresh mode (pace_of mode) limit 0 m

-- ---- a call that makes steps

-- what a call of so many steps leaves: no more steps were made, no device is there that wasn't, and those that are there are fit
-- for the exchanges that may still be made
pub record LeavesAfterSteps {B : Type 0} (device_of : B → device.Device) (spare : B → ℕ) (steps : ℕ) (before after : View) (old new : List B) : Type 0 where
  pub keeps : Keeps before after
  pub most : after.steps ≤ before.steps + steps
  pub left : (port : ℕ) → has_port device_of port new ≡ true → has_port device_of port old ≡ true
  pub fit : AreFit device_of spare (exchanges_to_come after) new

-- a call answers the end that the machine then keeps; an end that had come before is kept, and nothing is changed; every other has
-- its cause in this call, and through every fault it is no verdict
pub record Answers {B : Type 0} (device_of : B → device.Device) (faults : B → ℕ) (end : Outcome) (before after : View) (old new : List B) : Type 0 where
  pub answer : end ≡ answer_of_end after.end
  pub kept : IsSome before.end → (after ≡ before) × (new ≡ old)
  pub cause : IsNone before.end → EndHasCause device_of faults end old new
  pub through : before.mode ≡ Through → IsNone before.end → (verdict : Verdict) → end ≢ Inadmissible verdict

-- a call makes so many steps, or fewer where an end comes: it goes on by them in its mode's run, from each state of each trial from
-- which it stood; `Stands` is the case of a trial's start
pub record MakesSteps {B : Type 0} (device_of : B → device.Device) (spare faults : B → ℕ) (steps : ℕ) (end : Outcome) (before after : View)
    (old new : List B) : Type 0 where
  pub stands : (o : Trial) (first : Voted) (n : ℕ) → StandsFrom o first n before (map device_of old)
      → StandsFrom o first (n + steps) after (map device_of new)
  pub answers : Answers device_of faults end before after old new
  pub leaves : LeavesAfterSteps device_of spare steps before after old new
