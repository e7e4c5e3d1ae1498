-- What the answer of a job is by its deck, and what it tells.
use Rattle.std.proofs.Common.{◌≡◌, ℕ, ◌*◌, false, List, map, Result, Ok, Err, OnErr, refl, sym, subst, ap, ◌∙◌}
use Rattle.lvdc_port.specs.Device.{Device}
use Rattle.lvdc_model.specs.Runs.{guarded}
use Rattle.lvdc_model.specs.Trial.{Trial}
use Rattle.lvdc_deck.specs.Deck.{deck_of}
use Rattle.lvdc_soak_deck.specs.Soak.{soak_of}
use Rattle.lvdc_deck.specs.declared.deck.Deck.{Deck}
use Rattle.lvdc_deck.specs.declared.fault.DeckFault.{DeckFault}
use Rattle.lvdc_reply.specs.Answer.{Answer, answer_with, refusal_text}
use Rattle.lvdc_reply.specs.Replies as reply
use Rattle.lvdc_reply.specs.Replies.{Quiet, IsRefused, IsUnfailed, IsReply}
use Rattle.lvdc_command_run.specs.declared.job.Engine.{Engine}
use Rattle.lvdc_command_run.specs.declared.job.Engine.TheVariants.{Guarded}
use Rattle.lvdc_command_run.specs.declared.job.Job.{Job}
use Rattle.lvdc_command_run.specs.declared.job.Job.TheVariants as job
use Rattle.lvdc_command_run.specs.Trials.{trial_of}
use Rattle.lvdc_command_run.specs.Headline.{HeadlineFor}
use Rattle.lvdc_deck.specs.Faults.{name_of, line_of}
use Rattle.lvdc_command_run.specs.Refusals.{refusal_status, refused_answer}
use Rattle.lvdc_command_run.specs.Answers.{run_answer, failed_answer, deck_answer, job_answer}
use Rattle.lvdc_command_run.specs.Runs.{Means, HasRunThat}
use Rattle.lvdc_command_run.specs.Replies.{made, failed, IsRunOf, IsAnswered, refused, ran, FailsInRun, IsJobReply, IsUnreported, IsUnanswered, untouched, begun}
use Rattle.lvdc_reply.proofs.Statuses.{IsMadeStatus, made-unfailed, made-kept, refused-unfailed, kept_quiet}
use Rattle.lvdc_command_run.proofs.Statuses.{made-status, failed-status, refusal_is}

-- ---- the answer of a job

-- it is that of the run of the job's deck
job_answer-ran : (j : Job) (bytes : List ℕ) (devices : List Device) (deck : Deck) → Means j bytes devices deck
    → run_answer j (trial_of devices deck) deck.count ≡ job_answer j bytes devices
job_answer-ran (job.Deck engine) bytes devices deck means = sym (ap (deck_answer engine devices) means)
job_answer-ran (job.Soak number) bytes devices deck means = ap (λ (d : Deck). run_answer (job.Soak number) (trial_of devices d) d.count) means

-- or the refusal of its deck
job_answer-refused : (j : Job) (engine : Engine) (bytes : List ℕ) (devices : List Device) (fault : DeckFault) → j ≡ job.Deck engine
    → deck_of bytes devices false ≡ Err fault → refused_answer devices fault ≡ job_answer j bytes devices
job_answer-refused j engine bytes devices fault is means =
    sym (ap (λ (k : Job). job_answer k bytes devices) is ∙ ap (deck_answer engine devices) means)

module _ {B : Type 0} (device_of : B → Device) (faults : B → ℕ) (j : Job) (bytes : List ℕ) (old new : List B) where
  -- an answer that is due where no device fails
  by_answer : (due : Answer) → due ≡ job_answer j bytes (map device_of old) → IsUnfailed due.status → (IsRefused due.status → new ≡ old)
      → Quiet device_of faults old new → IsJobReply device_of faults j bytes old new due
  by_answer due is unfailed kept quiet =
      subst (λ (a : Answer). IsReply device_of faults a (FailsInRun j bytes (map device_of old)) old new due) is (reply.answered unfailed kept quiet)

  by_run : (deck : Deck) (due : Answer) → Means j bytes (map device_of old) deck → IsRunOf device_of faults j deck old new due
      → IsJobReply device_of faults j bytes old new due
  by_run deck due means (made quiet) =
      let o = trial_of (map device_of old) deck in
      let status : IsMadeStatus (run_answer j o deck.count).status = made-status j o deck.count in
      by_answer (run_answer j o deck.count) (job_answer-ran j bytes (map device_of old) deck means)
      (made-unfailed (run_answer j o deck.count).status status) (made-kept (run_answer j o deck.count).status status) quiet
  by_run deck due means (failed step port x rose others) =
      let o = trial_of (map device_of old) deck in
      reply.failed step port (failed_answer j o step port) (record { deck = deck; means = means; exchanges = x; is = refl })
      (failed-status j o step port) rose others

  job_reply : (due : Answer) → IsAnswered device_of faults j bytes old new due → IsJobReply device_of faults j bytes old new due
  job_reply due (refused engine fault is means same) =
      by_answer (refused_answer (map device_of old) fault) (job_answer-refused j engine bytes (map device_of old) fault is means)
      (refused-unfailed (refusal_status fault) (refusal_is fault)) (λ r. same) (kept_quiet device_of faults old new same)
  job_reply due (ran deck answer means is) = by_run deck answer means is

-- the same of a job that is known to be this one
pub job_replied : {B : Type 0} {device_of : B → Device} {faults : B → ℕ} (j k : Job) (bytes : List ℕ) {old new : List B} (due : Answer) → j ≡ k
    → IsAnswered device_of faults k bytes old new due → IsJobReply device_of faults j bytes old new due
job_replied {device_of} {faults} j k bytes {old} {new} due is h =
    job_reply device_of faults j bytes old new due (subst (λ (x : Job). IsAnswered device_of faults x bytes old new due) (sym is) h)

-- the reply to a refused deck, by its parts
pub refused_by : {B : Type 0} (device_of : B → Device) (faults : B → ℕ) (engine : Engine) (bytes : List ℕ) (old : List B) (fault : DeckFault) (status : ℕ) (text : List ℕ)
    → deck_of bytes (map device_of old) false ≡ Err fault → status ≡ refusal_status fault → text ≡ refusal_text (name_of fault) (line_of fault)
    → IsAnswered device_of faults (job.Deck engine) bytes old old (answer_with status text (map device_of old))
refused_by device_of faults engine bytes old fault status text means s t =
    let same : refused_answer (map device_of old) fault ≡ answer_with status text (map device_of old) = λ i. answer_with (sym s i) (sym t i) (map device_of old) in
    subst (λ (a : Answer). IsAnswered device_of faults (job.Deck engine) bytes old old a) same (refused engine fault refl means refl)

-- ---- want of memory in a soak run, over any bytes

pub soak_untouched : {B : Type 0} (device_of : B → Device) (faults : B → ℕ) (number : ℕ) (old : List B) (bytes : List ℕ)
    → IsUnanswered device_of faults (job.Soak number) bytes old old
soak_untouched device_of faults number old bytes = untouched refl

pub soak_begun : {B : Type 0} (device_of : B → Device) (faults : B → ℕ) (number : ℕ) (deck : Deck) (old new : List B) → deck ≡ soak_of number
    → IsUnreported device_of faults (job.Soak number) deck old new → (bytes : List ℕ) → IsUnanswered device_of faults (job.Soak number) bytes old new
soak_begun device_of faults number deck old new means h bytes = begun deck means h

-- what it leaves over all bytes it leaves over these
pub soak_unanswered : {A E B : Type 0} (device_of : B → Device) (faults : B → ℕ) (number : ℕ) (bytes : List ℕ) (old new : List B) (result : Result A E)
    → OnErr result ((bytes : List ℕ) → IsUnanswered device_of faults (job.Soak number) bytes old new)
    → OnErr result (IsUnanswered device_of faults (job.Soak number) bytes old new)
soak_unanswered device_of faults number bytes old new (Ok a) h = tt
soak_unanswered device_of faults number bytes old new (Err e) h = h bytes

-- ---- what the answer tells

-- a status says what the run comes to
pub job_has : (P : Job → Trial → ℕ → Type 0) (n : ℕ) → (IsRefused n → ⊥)
    → ((j : Job) (o : Trial) (times : ℕ) → (run_answer j o times).status ≡ n → P j o times)
    → (j : Job) (bytes : List ℕ) (devices : List Device) → (job_answer j bytes devices).status ≡ n → HasRunThat P j bytes devices
job_has P n kept law (job.Deck engine) bytes devices e = by_deck (deck_of bytes devices false) refl e
  where
    by_deck : (r : Result Deck DeckFault) → deck_of bytes devices false ≡ r → (deck_answer engine devices r).status ≡ n
        → HasRunThat P (job.Deck engine) bytes devices
    by_deck (Ok deck) means e = record { deck = deck; means = means; comes = law (job.Deck engine) (trial_of devices deck) deck.count e }
    by_deck (Err fault) means e = absurd (kept (subst IsRefused e (refusal_is fault)))
job_has P n kept law (job.Soak number) bytes devices e =
    record { deck = soak_of number; means = refl; comes = law (job.Soak number) (trial_of devices (soak_of number)) (soak_of number).count e }

-- and the other way round
pub job_is : (P : Job → Trial → ℕ → Type 0) (n : ℕ)
    → ((j : Job) (o : Trial) (times : ℕ) → P j o times → (run_answer j o times).status ≡ n)
    → (j : Job) (bytes : List ℕ) (devices : List Device) → HasRunThat P j bytes devices → (job_answer j bytes devices).status ≡ n
job_is P n law j bytes devices h =
    ap (λ (a : Answer). a.status) (sym (job_answer-ran j bytes devices h.deck h.means)) ∙ law j (trial_of devices h.deck) h.deck.count h.comes

account-headline : (o : Trial) (n : ℕ) → HeadlineFor o n (run_answer (job.Deck Guarded) o n)
account-headline o n =
    record {
      is_status = refl;
      counts = (guarded o (3 * n)).counts;
      repairs = (guarded o (3 * n)).repairs;
      report = refl;
      left = refl;
    }

-- the headline of a deck
pub job-headline : (bytes : List ℕ) (devices : List Device) (deck : Deck) → deck_of bytes devices false ≡ Ok deck
    → HeadlineFor (trial_of devices deck) deck.count (job_answer (job.Deck Guarded) bytes devices)
job-headline bytes devices deck means =
    subst (λ (a : Answer). HeadlineFor (trial_of devices deck) deck.count a) (job_answer-ran (job.Deck Guarded) bytes devices deck means)
    (account-headline (trial_of devices deck) deck.count)
