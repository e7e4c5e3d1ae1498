-- The run that goes on from a saved state.
use Rattle.std.specs.Prelude.{ℕ, ◌-◌, ◌*◌, ◌≤◌, All, List, length}
use Rattle.std.specs.declared.option.Option.TheVariants.{Some}
use Rattle.lvdc_port.specs.Device as device
use Rattle.lvdc_modules.specs.Seen.{here}
use Rattle.lvdc_fault.specs.Events.{TIMES, EVENTS, IsEvent}
use Rattle.lvdc_model.specs.Trial.{Trial}
use Rattle.lvdc_model.specs.Voted.{Voted}
use Rattle.lvdc_model.specs.declared.outcome.Outcome.TheVariants.{Device}
use Rattle.lvdc_machine.specs.Resumed.{state_from, FailedFrom}
use Rattle.lvdc_snapshot.specs.Snapshot.{IsWhole, voted_in, meant}
use Rattle.lvdc_machine.specs.Steps.{run_from}
use Rattle.lvdc_machine.specs.declared.mode.Mode.TheVariants.{Guarded}
use Rattle.lvdc_save.specs.declared.saved.Saved.{Saved}
use Rattle.lvdc_command_resume.specs.Restore.{devices_of}

-- what is true of each saved state that is read
pub record IsRunnable (s : Saved) : Type 0 where
  pub whole : IsWhole s.snapshot
  pub steps : s.snapshot.steps ≤ 3 * s.count
  pub count : s.count ≤ TIMES
  pub few : length s.script ≤ EVENTS
  pub events : All IsEvent s.script

-- The trial that goes on. Of its opening only the simplex pairs and the UNPLUG lines matter from here on; beside them stand the
-- words intended, the place where the votes go on and the devices of the saved state.
abbrev pub trial_of : Saved → List device.Device → Trial
trial_of s devices =
    record {
      opening = record {
        image = s.snapshot.words;
        banks = s.snapshot.banks;
        start = here (voted_in s.snapshot);
        unplugs = s.unplugs;
        devices = devices_of s devices;
      };
      script = s.script;
    }

-- the state in which it goes on: that of the snapshot, with these devices as they are in the saved state
abbrev pub first_state : Saved → List device.Device → Voted
first_state s devices = meant s.snapshot (devices_of s devices)

-- the steps that are left of those of the count
abbrev pub steps_left : Saved → ℕ
steps_left s = 3 * s.count - s.snapshot.steps

-- the state after the steps that are left, or fewer where an end comes; each is judged by the votes, cells and intended words that
-- the state itself has
abbrev pub last_state : Saved → List device.Device → Voted
last_state s devices = run_from Guarded (trial_of s devices) (first_state s devices) (steps_left s)

-- the run comes to an exchange of this step with this port, without an end before it
abbrev pub Exchanges : Saved → List device.Device → ℕ → ℕ → Type 0
Exchanges s devices step port = FailedFrom (trial_of s devices) (first_state s devices) (steps_left s) Guarded step port

-- its state where the device at this port fails in that exchange: the step is begun, and nothing latches
abbrev pub failed_state : Saved → List device.Device → ℕ → ℕ → Voted
failed_state s devices step port =
    state_from (Some (Device step port)) Guarded (trial_of s devices) (first_state s devices) (steps_left s)
