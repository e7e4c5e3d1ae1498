-- How a number of times is answered, by its deck.
use Rattle.std.proofs.Common.{◌≡◌, ℕ, List, map, Ok, Err, refl, sym, ap, subst, inl}
use Rattle.lvdc_port.specs.Device as device
use Rattle.lvdc_model.specs.declared.outcome.Outcome.{Outcome}
use Rattle.lvdc_model.specs.declared.outcome.Outcome.TheVariants.{Done, Stopped, Inadmissible, Device}
use Rattle.lvdc_deck.specs.Faults.{name_of, line_of}
use Rattle.lvdc_deck.specs.declared.deck.Deck.{Deck}
use Rattle.lvdc_deck.specs.declared.fault.DeckFault.{DeckFault}
use Rattle.lvdc_reply.specs.Answer.{Answer, answer_with, refusal_text}
use Rattle.lvdc_reply.specs.Replies as reply
use Rattle.lvdc_reply.specs.Replies.{Quiet, IsRefused, IsUnfailed, IsReply}
use Rattle.lvdc_command_run.specs.Accounts.{account}
use Rattle.lvdc_command_run.specs.Answers.{failed_answer}
use Rattle.lvdc_command_run.specs.Refusals.{refusal_status, refused_answer}
use Rattle.lvdc_command_run.specs.Trials.{trial_of}
use Rattle.lvdc_command_run.specs.declared.job.Engine.TheVariants as engine
use Rattle.lvdc_command_run.specs.declared.job.Job.TheVariants as job
use Rattle.lvdc_reply.proofs.Statuses.{IsMadeStatus, made-unfailed, made-kept, refused-unfailed, kept_quiet}
use Rattle.lvdc_command_run.proofs.Statuses.{made-status, refusal_is}
use Rattle.lvdc_command_save.specs.Answers.{answer_by_end, stop_answer, deck_for, answer_by_deck, save_answer}
use Rattle.lvdc_command_save.specs.Replies.{IsStop, made, failed, IsAnswered, refused, ran, FailsInSave, IsSaveReply, writing, IsUnanswered, untouched, begun}

-- ---- statuses

-- the status of a run's answer, or 0 for a saved text
stop-by : (end : Outcome) (devices : List device.Device) (deck : Deck) (n : ℕ) → IsMadeStatus (answer_by_end end devices deck n).status
stop-by Done devices deck n = record { is = inl refl }
stop-by (Stopped step stop) devices deck n = made-status (job.Deck engine.Guarded) (trial_of devices deck) n
stop-by (Inadmissible verdict) devices deck n = made-status (job.Deck engine.Guarded) (trial_of devices deck) n
stop-by (Device step port) devices deck n = made-status (job.Deck engine.Guarded) (trial_of devices deck) n

stop-status : (devices : List device.Device) (deck : Deck) (n : ℕ) → IsMadeStatus (stop_answer devices deck n).status
stop-status devices deck n = stop-by (account (trial_of devices deck) n).end devices deck n

-- ---- the answer

module _ {B : Type 0} (device_of : B → device.Device) (faults : B → ℕ) (n : ℕ) (bytes : List ℕ) (old new : List B) where
  by_answer : (due : Answer) → due ≡ save_answer n bytes (map device_of old) → IsUnfailed due.status → (IsRefused due.status → new ≡ old)
      → Quiet device_of faults old new → IsSaveReply device_of faults n bytes old new due
  by_answer due is unfailed kept quiet =
      subst (λ (a : Answer). IsReply device_of faults a (FailsInSave n bytes (map device_of old)) old new due) is (reply.answered unfailed kept quiet)

  by_stop : (deck : Deck) (due : Answer) → deck_for n bytes (map device_of old) ≡ Ok deck → IsStop device_of faults n deck old new due
      → IsSaveReply device_of faults n bytes old new due
  by_stop deck due means (made quiet) =
      let status = stop-status (map device_of old) deck n in
      by_answer (stop_answer (map device_of old) deck n) (sym (ap (answer_by_deck n (map device_of old)) means))
      (made-unfailed (stop_answer (map device_of old) deck n).status status) (made-kept (stop_answer (map device_of old) deck n).status status) quiet
  by_stop deck due means (failed step port x rose others) =
      reply.failed step port (failed_answer (job.Deck engine.Guarded) (trial_of (map device_of old) deck) step port)
      (record { deck = deck; means = means; exchanges = x; is = refl }) refl rose others

  pub save_reply : (due : Answer) → IsAnswered device_of faults n bytes old new due → IsSaveReply device_of faults n bytes old new due
  save_reply due (refused fault means same) =
      by_answer (refused_answer (map device_of old) fault) (sym (ap (answer_by_deck n (map device_of old)) means))
      (refused-unfailed (refusal_status fault) (refusal_is fault)) (λ r. same) (kept_quiet device_of faults old new same)
  save_reply due (ran deck answer means is) = by_stop deck answer means is

-- the reply to a refused deck, by its parts
pub refused_by : {B : Type 0} (device_of : B → device.Device) (faults : B → ℕ) (n : ℕ) (bytes : List ℕ) (old : List B) (fault : DeckFault) (status : ℕ) (text : List ℕ)
    → deck_for n bytes (map device_of old) ≡ Err fault → status ≡ refusal_status fault → text ≡ refusal_text (name_of fault) (line_of fault)
    → IsAnswered device_of faults n bytes old old (answer_with status text (map device_of old))
refused_by device_of faults n bytes old fault status text means s t =
    let same : refused_answer (map device_of old) fault ≡ answer_with status text (map device_of old) = λ i. answer_with (sym s i) (sym t i) (map device_of old) in
    subst (λ (a : Answer). IsAnswered device_of faults n bytes old old a) same (refused fault means refl)

-- where the reply isn't given for its length, it is as where its text found no memory
pub unanswered_of : {B : Type 0} (device_of : B → device.Device) (faults : B → ℕ) (n : ℕ) (bytes : List ℕ) (old new : List B) (due : Answer)
    → map device_of new ≡ due.devices → IsAnswered device_of faults n bytes old new due → IsUnanswered device_of faults n bytes old new
unanswered_of device_of faults n bytes old new due left (refused fault means same) = untouched same
unanswered_of device_of faults n bytes old new due left (ran deck answer means is) = begun deck means (writing answer is left)
