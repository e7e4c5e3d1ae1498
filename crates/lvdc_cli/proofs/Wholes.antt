-- A run that goes on from a text that tells it is answered as the whole run is.
use Rattle.std.proofs.Common.{◌≡◌, ◌≢◌, ℕ, List, Ok, refl, sym, ap, subst, ◌∙◌}
use Rattle.lvdc_port.specs.Device.{Device}
use Rattle.lvdc_save.specs.Reading.{saved_of}
use Rattle.lvdc_save.specs.declared.saved.Saved.{Saved}
use Rattle.lvdc_reply.specs.Answer.{Answer}
use Rattle.lvdc_command_run.specs.Answers.{run_answer, deck_answer, job_answer}
use Rattle.lvdc_command_run.specs.Trials.{trial_of}
use Rattle.lvdc_command_run.specs.declared.job.Engine.TheVariants as engine
use Rattle.lvdc_command_run.specs.declared.job.Job.TheVariants as job
use Rattle.lvdc_command_resume.specs.GoesOn.{GoesOn}
use Rattle.lvdc_command_resume.specs.Finished.{MeansOf}
use Rattle.lvdc_command_resume.specs.Reordered.{AreReordered, IsAnswerReordered, GoesOnReordered}
use Rattle.lvdc_command_resume.specs.Restore.{devices_of}
use Rattle.lvdc_command_resume.proofs.InAnyOrder.{saved-reordered}
use Rattle.lvdc_model.specs.Runs.{guarded}
use Rattle.lvdc_model.specs.Trial.{Trial}
use Rattle.lvdc_model.specs.Voted.{Voted}
use Rattle.lvdc_cli.specs.Goes.{TellsRun}
use Rattle.lvdc_cli.proofs.AnyOrder.{saved-same}

pub whole-run : (bytes : List ℕ) (before now : List Device) (text : List ℕ) (reply : Answer) → TellsRun bytes before now text
    → ((s : Saved) → saved_of now text ≡ Ok s → GoesOn s now reply) → reply.status ≢ 10 → reply ≡ job_answer (job.Deck engine.Guarded) bytes before
whole-run bytes before now text reply t goes unfailed =
    goes t.saved t.read (trial_of before t.deck) t.opening t.state unfailed
    ∙ ap (run_answer (job.Deck engine.Guarded) (trial_of before t.deck)) t.count
    ∙ ap (deck_answer engine.Guarded before) (sym t.means)

-- the same over devices in any order
pub whole-reordered : (bytes : List ℕ) (before first now : List Device) (text : List ℕ) (reply : Answer) → TellsRun bytes before first text → AreReordered first now
    → ((s : Saved) → saved_of now text ≡ Ok s → GoesOnReordered s now reply) → reply.status ≢ 10
    → IsAnswerReordered (job_answer (job.Deck engine.Guarded) bytes before) reply
whole-reordered bytes before first now text reply t re goes unfailed =
    let o : Trial = trial_of before t.deck in
    let left : List Device = devices_of t.saved now in
    let state : Voted = guarded o t.saved.snapshot.steps in
    let known = t.state.state in
    let means : MeansOf t.saved now o (record state { devices = left }) = record {
      script = t.state.script;
      unplugs = t.state.unplugs;
      banks = t.state.banks;
      state = record {
        copies = known.copies;
        counts = known.counts;
        cells = known.cells;
        selected = known.selected;
        words = known.words;
        log = known.log;
        repairs = known.repairs;
        steps = known.steps;
        end = known.end;
      };
      left = refl;
    } in
    let among : AreReordered state.devices left = subst (λ (devices : List Device). AreReordered devices left) (sym t.state.left) (saved-reordered t.saved first now re) in
    subst (λ (due : Answer). IsAnswerReordered due reply)
    (ap (run_answer (job.Deck engine.Guarded) o) t.count ∙ ap (deck_answer engine.Guarded before) (sym t.means))
    (goes t.saved (saved-same first now re text ∙ t.read) o left t.opening means among unfailed)
