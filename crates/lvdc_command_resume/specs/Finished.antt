-- What the run that goes on leaves.
use Rattle.std.specs.Prelude.{◌≡◌, ℕ, List, map}
use Rattle.lvdc_port.specs.Device.{Device}
use Rattle.lvdc_model.specs.Trial.{Trial}
use Rattle.lvdc_model.specs.Voted.{Voted}
use Rattle.lvdc_machine.specs.Causes.{EndHasCause}
use Rattle.lvdc_machine.specs.Resumed.{StandsFrom}
use Rattle.lvdc_snapshot.specs.Snapshot.{Means}
use Rattle.lvdc_machine.specs.View.{View, answer_of_end}
use Rattle.lvdc_machine.specs.declared.mode.Mode.TheVariants.{Guarded}
use Rattle.lvdc_save.specs.declared.saved.Saved.{Saved}
use Rattle.lvdc_command_resume.specs.Restore.{devices_of}
use Rattle.lvdc_command_resume.specs.Runs.{steps_left}

-- the saved state means this state of a trial, with these devices
pub record MeansOf (s : Saved) (devices : List Device) (o : Trial) (v : Voted) : Type 0 where
  pub script : o.script ≡ s.script
  pub unplugs : o.opening.unplugs ≡ s.unplugs
  pub banks : o.opening.banks ≡ s.snapshot.banks
  pub state : Means s.snapshot v
  pub left : v.devices ≡ devices_of s devices

-- a machine has gone on from a saved state that these devices were given: it stands where the run from each state is that the saved
-- state means; its end has its cause
pub record HasRun {B : Type 0} (device_of : B → Device) (faults : B → ℕ) (s : Saved) (old new : List B) (m : View) : Type 0 where
  pub mode : m.mode ≡ Guarded
  pub stands : (o : Trial) (v : Voted) → MeansOf s (map device_of old) o v → StandsFrom o v (steps_left s) m (map device_of new)
  pub cause : EndHasCause device_of faults (answer_of_end m.end) old new
