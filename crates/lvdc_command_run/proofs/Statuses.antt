-- The status of a run: 5 exactly where the job judges and finds a step that isn't admissible, 6 exactly where it stops, else 0;
-- and 10 where a device fails. And that of a refused deck.
use Rattle.std.proofs.Common.{◌≡◌, ◌≢◌, ℕ, ◌*◌, IsSome, None, Some, refl, sym, ◌∙◌, inl, inr, ◌⊎◌, arith}
use Rattle.std.specs.declared.option.Option.{Option}
use Rattle.lvdc_plain.specs.declared.records.Stop.{Stop}
use Rattle.lvdc_fault.specs.declared.verdict.Verdict.{Verdict}
use Rattle.lvdc_fault.specs.declared.verdict.Verdict.TheVariants.{Admissible, Logic, Memory}
use Rattle.lvdc_model.specs.Judging.{first_bad}
use Rattle.lvdc_model.specs.Runs.{through}
use Rattle.lvdc_model.specs.Trial.{Trial, plain_at}
use Rattle.lvdc_model.specs.Voted.{voted_start}
use Rattle.lvdc_model.specs.declared.outcome.Outcome.{Outcome}
use Rattle.lvdc_model.specs.declared.outcome.Outcome.TheVariants.{Done, Stopped, Inadmissible, Device}
use Rattle.lvdc_machine.specs.View.{answer_of_end}
use Rattle.lvdc_machine.specs.declared.mode.Mode.TheVariants as modes
use Rattle.lvdc_report.specs.Report.{outcome_of}
use Rattle.lvdc_deck.specs.declared.fault.DeckFault.{DeckFault}
use Rattle.lvdc_deck.specs.declared.fault.DeckFault.TheVariants.{NoMemory, BadSection, BadLine, NoProgram, NoDevice, TooManyEvents, CountTooLarge, Image, Asm}
use Rattle.lvdc_reply.specs.Replies.{IsRefused}
use Rattle.lvdc_reply.proofs.Statuses.{IsMadeStatus}
use Rattle.lvdc_command_run.specs.declared.job.Job.{Job}
use Rattle.lvdc_command_run.specs.declared.job.Job.TheVariants as job
use Rattle.lvdc_command_run.specs.declared.job.Engine.TheVariants.{Guarded, Through, Plain}
use Rattle.lvdc_command_run.specs.Accounts.{end_by, account_by, end_status}
use Rattle.lvdc_command_run.specs.Answers.{plain_end_by, run_answer, failed_answer}
use Rattle.lvdc_command_run.specs.Refusals.{refusal_status}
use Rattle.lvdc_command_run.proofs.Endings.{IsEndOf, run-end, run-status}
use Rattle.lvdc_command_run.specs.Runs.{Judges, IsStop, StopsAdmitted, Stops}

-- ---- the status of a refused deck

pub refusal_is : (fault : DeckFault) → IsRefused (refusal_status fault)
refusal_is NoMemory = inl refl
refusal_is (BadSection line) = inl refl
refusal_is (BadLine line) = inl refl
refusal_is (NoProgram line) = inl refl
refusal_is (NoDevice line) = inl refl
refusal_is (TooManyEvents line) = inl refl
refusal_is (CountTooLarge line) = inl refl
refusal_is (Image fault) = inr (inr refl)
refusal_is (Asm fault) = inr (inl refl)

-- ---- statuses of ends

-- the plain run ends as it is told
ends-alike : (stop : Option Stop) (times : ℕ) → end_status (outcome_of (plain_end_by stop times)) ≡ end_status (end_by stop times)
ends-alike None times = refl
ends-alike (Some stop) times = refl

plain-status : (stop : Option Stop) (times : ℕ) → (end_status (end_by stop times) ≡ 0) ⊎ (end_status (end_by stop times) ≡ 6)
plain-status None times = inl refl
plain-status (Some stop) times = inr refl

plain-stops : (stop : Option Stop) (times : ℕ) → end_status (end_by stop times) ≡ 6 → IsSome stop
plain-stops None times e = absurd (omega (arith, e))
plain-stops (Some stop) times e = refl

stops-plain : (stop : Option Stop) (times : ℕ) → IsSome stop → end_status (end_by stop times) ≡ 6
stops-plain None times s = absurd (cc)
stops-plain (Some stop) times s = refl

account-status : (w : Verdict) (o : Trial) (n : ℕ) → IsMadeStatus (end_status (account_by w o n).end)
account-status Admissible o n = record { is = elim (plain-status (plain_at o n).stop (plain_at o n).times) [ inl e ↦ inl e | inr e ↦ inr (inr e) ] }
account-status (Logic step m) o n = record { is = inr (inl refl) }
account-status (Memory step at) o n = record { is = inr (inl refl) }

pub made-status : (j : Job) (o : Trial) (n : ℕ) → IsMadeStatus (run_answer j o n).status
made-status (job.Deck Guarded) o n = account-status (first_bad o n) o n
made-status (job.Deck Through) o n = run-status modes.Through o (voted_start o) (3 * n) refl
made-status (job.Deck Plain) o n =
    let same = ends-alike (plain_at o n).stop (plain_at o n).times in
    record { is = elim (plain-status (plain_at o n).stop (plain_at o n).times) [ inl e ↦ inl (same ∙ e) | inr e ↦ inr (inr (same ∙ e)) ] }
made-status (job.Soak number) o n = account-status (first_bad o n) o n

pub failed-status : (j : Job) (o : Trial) (step port : ℕ) → (failed_answer j o step port).status ≡ 10
failed-status (job.Deck Guarded) o step port = refl
failed-status (job.Deck Through) o step port = refl
failed-status (job.Deck Plain) o step port = refl
failed-status (job.Soak number) o step port = refl

-- ---- 5

account-bad : (w : Verdict) (o : Trial) (n : ℕ) → end_status (account_by w o n).end ≡ 5 → w ≢ Admissible
account-bad Admissible o n e = absurd (omega (arith, e, plain-status (plain_at o n).stop (plain_at o n).times))
account-bad (Logic step m) o n e = λ x. absurd (cc)
account-bad (Memory step at) o n e = λ x. absurd (cc)

bad-account : (w : Verdict) (o : Trial) (n : ℕ) → w ≢ Admissible → end_status (account_by w o n).end ≡ 5
bad-account Admissible o n bad = absurd (bad refl)
bad-account (Logic step m) o n bad = refl
bad-account (Memory step at) o n bad = refl

through-unjudged : (end : Option Outcome) → IsEndOf modes.Through end → end_status (answer_of_end end) ≡ 5 → ⊥
through-unjudged None h e = omega (arith, e)
through-unjudged (Some Done) h e = h
through-unjudged (Some (Stopped step stop)) h e = omega (arith, e)
through-unjudged (Some (Inadmissible verdict)) h e = h
through-unjudged (Some (Device step port)) h e = h

pub status-judges : (j : Job) (o : Trial) (n : ℕ) → (run_answer j o n).status ≡ 5 → Judges j o n
status-judges (job.Deck Guarded) o n e = account-bad (first_bad o n) o n e
status-judges (job.Deck Through) o n e = through-unjudged (through o (3 * n)).end (run-end modes.Through o (voted_start o) (3 * n) refl) e
status-judges (job.Deck Plain) o n e = omega (arith, e, ends-alike (plain_at o n).stop (plain_at o n).times, plain-status (plain_at o n).stop (plain_at o n).times)
status-judges (job.Soak number) o n e = account-bad (first_bad o n) o n e

pub judges-status : (j : Job) (o : Trial) (n : ℕ) → Judges j o n → (run_answer j o n).status ≡ 5
judges-status (job.Deck Guarded) o n bad = bad-account (first_bad o n) o n bad
judges-status (job.Deck Through) o n bad = absurd bad
judges-status (job.Deck Plain) o n bad = absurd bad
judges-status (job.Soak number) o n bad = bad-account (first_bad o n) o n bad

-- ---- 6

account-stops : (w : Verdict) (o : Trial) (n : ℕ) → first_bad o n ≡ w → end_status (account_by w o n).end ≡ 6 → StopsAdmitted o n
account-stops Admissible o n is e = record { admissible = is; stops = plain-stops (plain_at o n).stop (plain_at o n).times e }
account-stops (Logic step m) o n is e = absurd (omega (arith, e))
account-stops (Memory step at) o n is e = absurd (omega (arith, e))

stops-account : (o : Trial) (n : ℕ) → StopsAdmitted o n → end_status (account_by (first_bad o n) o n).end ≡ 6
stops-account o n h = rw h.admissible (stops-plain (plain_at o n).stop (plain_at o n).times h.stops)

through-stops : (end : Option Outcome) → end_status (answer_of_end end) ≡ 6 → IsStop end
through-stops None e = absurd (omega (arith, e))
through-stops (Some Done) e = absurd (omega (arith, e))
through-stops (Some (Stopped step stop)) e = tt
through-stops (Some (Inadmissible verdict)) e = absurd (omega (arith, e))
through-stops (Some (Device step port)) e = absurd (omega (arith, e))

stops-through : (end : Option Outcome) → IsStop end → end_status (answer_of_end end) ≡ 6
stops-through None h = absurd h
stops-through (Some Done) h = absurd h
stops-through (Some (Stopped step stop)) h = refl
stops-through (Some (Inadmissible verdict)) h = absurd h
stops-through (Some (Device step port)) h = absurd h

pub status-stops : (j : Job) (o : Trial) (n : ℕ) → (run_answer j o n).status ≡ 6 → Stops j o n
status-stops (job.Deck Guarded) o n e = account-stops (first_bad o n) o n refl e
status-stops (job.Deck Through) o n e = through-stops (through o (3 * n)).end e
status-stops (job.Deck Plain) o n e = plain-stops (plain_at o n).stop (plain_at o n).times (sym (ends-alike (plain_at o n).stop (plain_at o n).times) ∙ e)
status-stops (job.Soak number) o n e = account-stops (first_bad o n) o n refl e

pub stops-status : (j : Job) (o : Trial) (n : ℕ) → Stops j o n → (run_answer j o n).status ≡ 6
stops-status (job.Deck Guarded) o n h = stops-account o n h
stops-status (job.Deck Through) o n h = stops-through (through o (3 * n)).end h
stops-status (job.Deck Plain) o n h = ends-alike (plain_at o n).stop (plain_at o n).times ∙ stops-plain (plain_at o n).stop (plain_at o n).times h
stops-status (job.Soak number) o n h = stops-account o n h
