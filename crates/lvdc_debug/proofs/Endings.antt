-- What the end of a guarded run says of its status and of an exchange that failed.
use Rattle.std.proofs.Common.{◌≡◌, ◌≢◌, ℕ, ◌*◌, List, None, Some, refl, sym, ap, subst, ◌∙◌}
use Rattle.std.specs.declared.option.Option.{Option}
use Rattle.lvdc_port.specs.Device as device
use Rattle.lvdc_plain.specs.declared.records.Stop.{Stop}
use Rattle.lvdc_fault.specs.declared.verdict.Verdict.{Verdict}
use Rattle.lvdc_fault.specs.declared.verdict.Verdict.TheVariants.{Admissible, Logic, Memory}
use Rattle.lvdc_model.specs.Exchanges.{begin_step, wished}
use Rattle.lvdc_model.specs.Judging.{first_bad}
use Rattle.lvdc_model.specs.Runs.{guarded, alone}
use Rattle.lvdc_model.specs.Trial.{Trial, plain_at}
use Rattle.lvdc_model.specs.Voted.{Voted}
use Rattle.lvdc_model.specs.declared.outcome.Outcome.{Outcome}
use Rattle.lvdc_model.specs.declared.outcome.Outcome.TheVariants.{Inadmissible, Device}
use Rattle.lvdc_laws_voted.specs.Ends.{stop_end}
use Rattle.lvdc_laws_runs.specs.Guarded.{IsExchanged, GuardedBy}
use Rattle.lvdc_machine.specs.Stands.{Stands, EndsAs, HasFailed, state_by}
use Rattle.lvdc_machine.specs.Steps.{NamesPort}
use Rattle.lvdc_machine.specs.View.{View, answer_of_end}
use Rattle.lvdc_machine.specs.declared.mode.Mode.{Mode}
use Rattle.lvdc_machine.specs.declared.mode.Mode.TheVariants.{Guarded}
use Rattle.lvdc_command_run.specs.Accounts.{end_status}
use Rattle.lvdc_command_run.specs.Runs.{ExchangesAdmitted}
use Rattle.lvdc_debug.specs.Answers.{status_by, status_after}

-- the laws of guarded runs, of one trial
pub record GuardedLaws (o : Trial) : Type 0 where
  pub same : (n : ℕ) → alone o n ≡ guarded o n
  pub verdict : (times : ℕ) → first_bad o times ≢ Admissible → (guarded o (3 * times)).end ≡ Some (Inadmissible (first_bad o times))
  pub ends : (times : ℕ) → first_bad o times ≡ Admissible → (guarded o (3 * times)).end ≡ stop_end (plain_at o times).stop (plain_at o times).times
  pub exchanged : (n port : ℕ) → (guarded o n).end ≡ None → NamesPort (wished o (begin_step o (guarded o n))) port → IsExchanged o n port
  pub follows : (n : ℕ) (m : View) (ds : List device.Device) → m.mode ≡ Guarded → Stands o n m ds → GuardedBy m.end o n (state_by m.end m.mode o n)

-- ---- the status

by-stop : (stop : Option Stop) (times : ℕ) → end_status (answer_of_end (stop_end stop times)) ≡ status_by Admissible stop
by-stop None times = refl
by-stop (Some stop) times = refl

-- the end of the guarded run has the status of the times
pub guarded-status : (o : Trial) (times : ℕ) → GuardedLaws o → end_status (answer_of_end (guarded o (3 * times)).end) ≡ status_after o times
guarded-status o times law = by (first_bad o times) refl
  where
    by : (w : Verdict) → first_bad o times ≡ w → end_status (answer_of_end (guarded o (3 * times)).end) ≡ status_by w (plain_at o times).stop
    by Admissible is =
        ap (λ (e : Option Outcome). end_status (answer_of_end e)) (law.ends times is) ∙ by-stop (plain_at o times).stop (plain_at o times).times
    by (Logic step number) is = ap (λ (e : Option Outcome). end_status (answer_of_end e)) (law.verdict times (λ a. absurd (cc)))
    by (Memory step at) is = ap (λ (e : Option Outcome). end_status (answer_of_end e)) (law.verdict times (λ a. absurd (cc)))

-- ---- an exchange that failed

-- it is one of the plain run, and neither its step nor one before it is inadmissible
pub exchange-failed : (o : Trial) (times step port : ℕ) (m : View) (ds : List device.Device) → GuardedLaws o → m.mode ≡ Guarded
    → Stands o (3 * times) m ds → m.end ≡ Some (Device step port) → ExchangesAdmitted o times step port
exchange-failed o times step port m ds law mode s is =
    let failed : HasFailed o (3 * times) Guarded step port =
    subst (λ (k : Mode). EndsAs (Some (Device step port)) o (3 * times) k m.steps) mode
    (subst (λ (e : Option Outcome). EndsAs e o (3 * times) m.mode m.steps) is s.ends) in
    let going : (guarded o step).end ≡ None = ap (λ (v : Voted). v.end) (sym (law.same step)) ∙ failed.going in
    let wish = subst (λ (v : Voted). NamesPort (wished o (begin_step o v)) port) (law.same step) failed.asked in
    let broken = subst (λ (e : Option Outcome). GuardedBy e o (3 * times) (state_by e m.mode o (3 * times))) is (law.follows (3 * times) m ds mode s) in
    record {
      plainly = record { early = failed.early; exchanged = law.exchanged step port going wish };
      admissible = broken.admissible;
    }
