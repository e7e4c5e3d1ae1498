-- What a saved run comes to where the saved state is one of a trial's run.
use Rattle.std.specs.Prelude.{◌≡◌, ◌≢◌, List}
use Rattle.lvdc_port.specs.Device.{Device}
use Rattle.lvdc_plain.specs.Run.{IsOpening}
use Rattle.lvdc_model.specs.Runs.{guarded}
use Rattle.lvdc_model.specs.Trial.{Trial}
use Rattle.lvdc_reply.specs.Answer.{Answer}
use Rattle.lvdc_command_run.specs.Answers.{run_answer}
use Rattle.lvdc_command_run.specs.declared.job.Engine.TheVariants.{Guarded}
use Rattle.lvdc_command_run.specs.declared.job.Job.TheVariants.{Deck}
use Rattle.lvdc_save.specs.declared.saved.Saved.{Saved}
use Rattle.lvdc_command_resume.specs.Finished.{MeansOf}

-- where it means the state of a trial's guarded run after its steps, and no device has failed, it is answered as `run` answers the trial
abbrev pub GoesOn : Saved → List Device → Answer → Type 0
GoesOn s devices reply =
    (o : Trial) → IsOpening o.opening → MeansOf s devices o (guarded o s.snapshot.steps) → reply.status ≢ 10
    → reply ≡ run_answer (Deck Guarded) o s.count
