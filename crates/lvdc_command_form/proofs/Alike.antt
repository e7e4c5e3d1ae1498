-- Where each word can be recovered the account of a run is what the plain run tells.
use Rattle.std.proofs.Common.{◌≡◌, ℕ, zero, suc, ◌*◌, ◌/◌, ◌<◌, ◌≤◌, true, List, ◌++◌, refl, sym, ap, ◌∙◌, subst, arith}
use Rattle.std.specs.declared.option.Option.{Option}
use Rattle.std.specs.declared.option.Option.TheVariants.{None, Some}
use Rattle.lvdc_map.specs.Address.{Spot}
use Rattle.lvdc_map.specs.Banks.{HasBank}
use Rattle.lvdc_plain.specs.Plain.{World}
use Rattle.lvdc_plain.specs.Run.{Opening, plugged, time_by, run}
use Rattle.lvdc_plain.specs.declared.records.PlainEnd.{PlainEnd}
use Rattle.lvdc_plain.specs.declared.records.PlainEnd.TheVariants as plain
use Rattle.lvdc_plain.specs.declared.records.Stop.{Stop}
use Rattle.lvdc_fault.specs.declared.verdict.Verdict.{Verdict}
use Rattle.lvdc_model.specs.declared.outcome.Outcome.TheVariants.{Device}
use Rattle.lvdc_model.specs.Trial.{Trial, plain_at}
use Rattle.lvdc_model.specs.Runs.{guarded}
use Rattle.lvdc_model.specs.Voted.{Voted}
use Rattle.lvdc_laws_voted.specs.Laws.{PortLaw}
use Rattle.lvdc_laws_voted.proofs.PlainRuns.{banks-stay}
use Rattle.lvdc_withstands.specs.Withstood.{Masked}
use Rattle.lvdc_lines.specs.Noted.{log_text, repairs_text}
use Rattle.lvdc_report.specs.Report.{title_line, end_text, registers_text, visible_in, outcome_of, memory_text, all_known}
use Rattle.lvdc_report.specs.Voted.{wrong_text}
use Rattle.lvdc_report.specs.declared.title.Title.TheVariants as title
use Rattle.lvdc_command_run.specs.Accounts.{Account, end_by, whole_account, begun_account, account_by, account, end_status}
use Rattle.lvdc_command_run.specs.Answers.{account_answer, plain_end_by, plain_answer, run_answer, failed_answer}
use Rattle.lvdc_command_run.specs.declared.job.Engine.TheVariants as engines
use Rattle.lvdc_command_run.specs.declared.job.Job.TheVariants as jobs
use Rattle.lvdc_command_run.proofs.Told.{memory-same}
use Rattle.lvdc_command_form.specs.Texts.{TellsPlain}

-- a run makes no more times than it is asked for
time-few : PortLaw → (stop : Option Stop) (o : Opening) (w : World) (k : ℕ) → w.plain.stop ≡ stop → w.plain.times ≤ k → (time_by stop o.unplugs w).plain.times ≤ suc k
time-few law (Some s) o w k e h = omega arith
time-few law None o w k e h =
    let made = (law w.plain (plugged o.unplugs w.plain.times w.devices) e).times in omega (arith, made, h)

few-times : PortLaw → (o : Opening) (k : ℕ) → (run o k).plain.times ≤ k
few-times law o zero = omega arith
few-times law o (suc k) = time-few law (run o k).plain.stop o (run o k) k refl (few-times law o k)

-- an account of a plain state with this end and these devices, of which each word can be recovered, is told as the plain run is
alike : (o : Trial) (v : Voted) (a : Account) (end : PlainEnd) → a.end ≡ outcome_of end → a.plain.banks ≡ o.opening.banks
    → ((at : Spot) → HasBank o.opening.banks at → a.recoverable at ≡ true)
    → TellsPlain v (account_answer o a v) (plain_answer end (record { plain = a.plain; devices = a.devices }))
alike o v a end ends banks known =
    record {
      lines = lines;
      text = λ i. title_line title.Run ++ (end_text (ends i) ++ registers_text (visible_in a.plain) ++ log_text a.plain.log ++ words i) ++ wrong_text v.counts ++ repairs_text v.repairs;
      plain_text = refl;
      status = λ i. end_status (ends i);
      devices = refl;
    }
  where
    lines : List ℕ
    lines = end_text (outcome_of end) ++ registers_text (visible_in a.plain) ++ log_text a.plain.log ++ memory_text a.plain.banks a.plain.memory all_known

    words : memory_text o.opening.banks a.plain.memory a.recoverable ≡ memory_text a.plain.banks a.plain.memory all_known
    words = memory-same o.opening.banks a.plain.memory a.plain.memory a.recoverable all_known refl known ∙ ap (λ (banks : ℕ). memory_text banks a.plain.memory all_known) (sym banks)

-- the plain run ends as it is told
ends-alike : (stop : Option Stop) (times : ℕ) → end_by stop times ≡ outcome_of (plain_end_by stop times)
ends-alike None times = refl
ends-alike (Some stop) times = refl

pub whole-alike : PortLaw → (o : Trial) (n : ℕ) → Masked o n → TellsPlain (guarded o (3 * n)) (run_answer (jobs.Deck engines.Guarded) o n) (run_answer (jobs.Deck engines.Plain) o n)
whole-alike law o n m =
    subst (λ (verdict : Verdict). TellsPlain v (account_answer o (account_by verdict o n) v) (run_answer (jobs.Deck engines.Plain) o n)) (sym m.verdict)
    (alike o v (whole_account o n) (plain_end_by (plain_at o n).stop (plain_at o n).times) (ends-alike (plain_at o n).stop (plain_at o n).times) (banks-stay law o.opening n)
    (λ at bank. m.words_after (3 * (plain_at o n).times) at (let few : (plain_at o n).times ≤ n = few-times law o.opening n in omega arith) bank))
  where
    v : Voted
    v = guarded o (3 * n)

pub failed-alike : PortLaw → (o : Trial) (n step port : ℕ) → Masked o n → step < 3 * n
    → TellsPlain (guarded o step) (failed_answer (jobs.Deck engines.Guarded) o step port) (failed_answer (jobs.Deck engines.Plain) o step port)
failed-alike law o n step port m below =
    alike o (guarded o step) (begun_account o step (Device step port)) (plain.Device step port) refl (banks-stay law o.opening (step / 3)) (λ at bank. m.words step at below bank)
