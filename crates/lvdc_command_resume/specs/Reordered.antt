-- The same devices in another order, and what a saved run comes to over them.
use Rattle.std.specs.Prelude.{◌≡◌, ◌≢◌, ℕ, ◌==◌, if◌then◌else◌, List, [], ◌∷◌}
use Rattle.std.specs.declared.option.Option.{Option}
use Rattle.std.specs.declared.option.Option.TheVariants.{None, Some}
use Rattle.lvdc_port.specs.Device.{Device}
use Rattle.lvdc_port.specs.Devices.{AreDistinct}
use Rattle.lvdc_plain.specs.Run.{IsOpening}
use Rattle.lvdc_model.specs.Runs.{guarded}
use Rattle.lvdc_model.specs.Trial.{Trial}
use Rattle.lvdc_reply.specs.Answer.{Answer}
use Rattle.lvdc_command_run.specs.Answers.{run_answer}
use Rattle.lvdc_command_run.specs.declared.job.Engine.TheVariants.{Guarded}
use Rattle.lvdc_command_run.specs.declared.job.Job.TheVariants.{Deck}
use Rattle.lvdc_save.specs.declared.saved.Saved.{Saved}
use Rattle.lvdc_command_resume.specs.Finished.{MeansOf}

-- the device at a port, where there is one
abbrev pub device_at : ℕ → List Device → Option Device
device_at port [] = None
device_at port (device ∷ devices) = if device.port == port then Some device else device_at port devices

-- the same devices in any order: no two have one port, and at each port stands the same
pub record AreReordered (old new : List Device) : Type 0 where
  pub distinct : AreDistinct old
  pub apart : AreDistinct new
  pub same : (port : ℕ) → device_at port new ≡ device_at port old

-- the same status and text, and the same devices in any order
pub record IsAnswerReordered (due reply : Answer) : Type 0 where
  pub status : reply.status ≡ due.status
  pub text : reply.text ≡ due.text
  pub devices : AreReordered due.devices reply.devices

-- where the saved state means the state of a trial's guarded run after its steps, but for the order of the devices, and no device has
-- failed, it is answered as `run` answers the trial, but for the order of the devices that are left
abbrev pub GoesOnReordered : Saved → List Device → Answer → Type 0
GoesOnReordered s devices reply =
    (o : Trial) (left : List Device) → IsOpening o.opening → MeansOf s devices o (record (guarded o s.snapshot.steps) { devices = left })
    → AreReordered (guarded o s.snapshot.steps).devices left → reply.status ≢ 10 → IsAnswerReordered (run_answer (Deck Guarded) o s.count) reply
