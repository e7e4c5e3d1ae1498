-- How a saved text is answered, by what it tells.
use Rattle.std.proofs.Common.{◌≡◌, ℕ, List, map, Ok, Err, refl, sym, ap, subst, inl, inr}
use Rattle.lvdc_port.specs.Device.{Device}
use Rattle.lvdc_reply.specs.Answer.{Answer, answer_with, refusal_text}
use Rattle.lvdc_reply.specs.Replies as reply
use Rattle.lvdc_reply.specs.Replies.{Quiet, IsRefused, IsUnfailed, IsReply}
use Rattle.lvdc_machine.specs.declared.mode.Mode.TheVariants.{Guarded}
use Rattle.lvdc_save.specs.Faults.{name_of, line_of}
use Rattle.lvdc_save.specs.Reading.{saved_of}
use Rattle.lvdc_save.specs.declared.fault.SaveFault.{SaveFault}
use Rattle.lvdc_save.specs.declared.saved.Saved.{Saved}
use Rattle.lvdc_command_resume.specs.Answers.{run_answer, failed_answer, saved_answer, resume_answer}
use Rattle.lvdc_command_resume.specs.Replies.{IsResumed, made, failed, unrestored, FailsInResume, restoring, running, IsResumeReply}
use Rattle.lvdc_command_resume.specs.Runs.{trial_of, first_state, steps_left}
use Rattle.lvdc_reply.proofs.Statuses.{IsMadeStatus, made-unfailed, made-kept}
use Rattle.lvdc_command_run.proofs.Endings.{run-status}

module _ {B : Type 0} (device_of : B → Device) (faults : B → ℕ) (bytes : List ℕ) (old new : List B) where
  -- an answer that is due where no device fails
  by_answer : (due : Answer) → due ≡ resume_answer bytes (map device_of old) → IsUnfailed due.status → (IsRefused due.status → new ≡ old)
      → Quiet device_of faults old new → IsResumeReply device_of faults bytes old new due
  by_answer due is unfailed kept quiet =
      subst (λ (a : Answer). IsReply device_of faults a (FailsInResume bytes (map device_of old)) old new due) is (reply.answered unfailed kept quiet)

  -- the reply to a saved state
  pub saved-reply : (s : Saved) (due : Answer) → saved_of (map device_of old) bytes ≡ Ok s → IsResumed device_of faults s old new due
      → IsResumeReply device_of faults bytes old new due
  saved-reply s due means (made quiet) =
      let a = run_answer s (map device_of old) in
      let status : IsMadeStatus a.status = run-status Guarded (trial_of s (map device_of old)) (first_state s (map device_of old)) (steps_left s) refl in
      by_answer a (sym (ap (saved_answer (map device_of old)) means)) (made-unfailed a.status status) (made-kept a.status status) quiet
  saved-reply s due means (failed step port x rose others) =
      reply.failed step port (failed_answer s (map device_of old) step port) (running s means x refl) refl rose others
  saved-reply s due means (unrestored port a f rose others) =
      reply.failed s.snapshot.steps port a (restoring s means refl f) (ap (λ (x : Answer). x.status) f.is) rose others

-- the reply to a refused text
pub refused-reply : {B : Type 0} (device_of : B → Device) (faults : B → ℕ) (bytes : List ℕ) (old : List B) (fault : SaveFault) (status : ℕ) (text : List ℕ)
    → saved_of (map device_of old) bytes ≡ Err fault → status ≡ 2 → text ≡ refusal_text (name_of fault) (line_of fault)
    → IsResumeReply device_of faults bytes old old (answer_with status text (map device_of old))
refused-reply device_of faults bytes old fault status text means s t =
    let due : answer_with 2 (refusal_text (name_of fault) (line_of fault)) (map device_of old) ≡ answer_with status text (map device_of old) =
    λ i. answer_with (sym s i) (sym t i) (map device_of old) in
    subst (λ (a : Answer). IsResumeReply device_of faults bytes old old a) due
    (by_answer device_of faults bytes old old (saved_answer (map device_of old) (Err fault)) (sym (ap (saved_answer (map device_of old)) means))
    (inr (inl refl)) (λ r. refl) (λ port left. refl))
