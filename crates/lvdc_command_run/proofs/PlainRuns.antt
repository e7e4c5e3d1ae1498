-- The answer of a run of the plain machine, from where the machine and its devices stand after it.
use Rattle.std.proofs.Common.{◌≡◌, ℕ, ◌+◌, ◌-◌, ◌*◌, ◌/◌, List, map, None, Some, refl, sym, ap, subst, ◌∙◌, arith}
use Rattle.std.specs.declared.option.Option.{Option}
use Rattle.lvdc_port.specs.Device as device
use Rattle.lvdc_plain.specs.Calls as plain_calls
use Rattle.lvdc_plain.specs.Plain.{PlainState}
use Rattle.lvdc_plain.specs.Run.{run}
use Rattle.lvdc_plain.specs.Stands.{Names, request_at, Shows, HasFailed, EndsAs}
use Rattle.lvdc_plain.specs.View.{View, answer_of_end}
use Rattle.lvdc_plain.specs.declared.records.PlainEnd.{PlainEnd}
use Rattle.lvdc_plain.specs.declared.records.PlainEnd.TheVariants.{Done, Stopped, Device}
use Rattle.lvdc_plain.specs.declared.records.Stop.{Stop}
use Rattle.lvdc_model.specs.Trial.{Trial}
use Rattle.lvdc_report.specs.Report.{report_text, outcome_of}
use Rattle.lvdc_report.specs.declared.title.Title.TheVariants as title
use Rattle.lvdc_command_run.specs.declared.job.Job.TheVariants as job
use Rattle.lvdc_command_run.specs.declared.job.Engine.TheVariants as engine
use Rattle.lvdc_command_run.specs.Accounts.{end_status}
use Rattle.lvdc_deck.specs.declared.deck.Deck.{Deck}
use Rattle.lvdc_reply.specs.Answer.{Answer, answer_with}
use Rattle.lvdc_command_run.specs.Answers.{begun_world, plain_end_by, run_answer, failed_answer}
use Rattle.lvdc_command_run.specs.Trials.{trial_of}
use Rattle.lvdc_command_run.specs.Finished.{HasRunPlainly}
use Rattle.lvdc_command_run.specs.Runs.{ExchangesPlainly}
use Rattle.lvdc_reply.specs.Replies.{Quiet}
use Rattle.lvdc_command_run.specs.Replies.{IsRun, made, failed, IsUnreported, reporting}

-- a stop falls into the last step of the last time
stop_step : (times step : ℕ) (stop : Stop) → step + 1 ≡ 3 * times → plain_end_by (Some stop) times ≡ Stopped step stop
stop_step times step stop e = let is : 3 * times - 1 ≡ step = omega (arith, e) in ap (λ (n : ℕ). Stopped n stop) is

-- a third of the last step of a time
last_third : (step times : ℕ) → step ≡ 3 * times + 2 → step / 3 ≡ times
last_third step times e = omega (arith, e)

-- the exchange that failed is one of the plain run
exchanged : (o : Trial) (n step port : ℕ) (m : View) (ds : List device.Device) → HasFailed o.opening n m ds step port → ExchangesPlainly o n step port
exchanged o n step port m ds f =
    let time : step / 3 ≡ m.times = last_third step m.times f.step in
    let there : (run o.opening m.times).plain ≡ (run o.opening (step / 3)).plain = ap (λ (k : ℕ). (run o.opening k).plain) (sym time) in
    let early = f.early in
    let is = f.step in
    record {
      early = omega (arith, early, is);
      exchanged = record {
        last = omega (arith, is);
        running = subst (λ (p : PlainState). p.stop ≡ None) there f.stop;
        free = subst (λ (p : PlainState). p.hold ≡ 0) there f.hold;
        asked = subst (λ (p : PlainState). Names (request_at p) port) there f.asked;
      };
    }

-- the answer that is due where the machine has come to this end, and the plain state that its report shows
record Comes {B : Type 0} (device_of : B → device.Device) (faults : B → ℕ) (o : Trial) (n : ℕ) (old new : List B) (m : View) (end : PlainEnd) : Type 0 where
  due : Answer
  run_is : IsRun device_of faults (job.Deck engine.Plain) o n old new due
  status : due.status ≡ end_status (outcome_of end)
  devices : due.devices ≡ map device_of new
  plain : PlainState
  shows : Shows m plain
  text : due.text ≡ report_text title.Plain end plain

module _ {B : Type 0} (device_of : B → device.Device) (faults : B → ℕ) (o : Trial) (n : ℕ) (old new : List B) (m : View) where
  -- a run of all times, or up to a stop
  by_run : (end : PlainEnd) → plain_end_by (run o.opening n).plain.stop (run o.opening n).plain.times ≡ end → Shows m (run o.opening n).plain
      → map device_of new ≡ (run o.opening n).devices → Quiet device_of faults old new → Comes device_of faults o n old new m end
  by_run end is shows left quiet =
      record {
        due = run_answer (job.Deck engine.Plain) o n;
        run_is = made quiet;
        status = ap (λ (e : PlainEnd). end_status (outcome_of e)) is;
        devices = sym left;
        plain = (run o.opening n).plain;
        shows = shows;
        text = ap (λ (e : PlainEnd). report_text title.Plain e (run o.opening n).plain) is;
      }

  -- by the end that was kept
  by_kept : (kept : Option PlainEnd) → EndsAs o.opening n m (map device_of new) kept
      → plain_calls.PlainEndHasCause device_of faults (answer_of_end kept) old new
      → Comes device_of faults o n old new m (answer_of_end kept)
  by_kept None r quiet = by_run Done (ap (λ (stop : Option Stop). plain_end_by stop (run o.opening n).plain.times) r.stop) r.shows r.left quiet
  by_kept (Some (Stopped step stop)) r quiet =
      by_run (Stopped step stop)
      (ap (λ (x : Option Stop). plain_end_by x (run o.opening n).plain.times) r.stop ∙ stop_step (run o.opening n).plain.times step stop (r.step ∙ ap (λ (k : ℕ). 3 * k) r.shows.times))
      r.shows r.left quiet
  by_kept (Some (Device step port)) r alone =
      let time : step / 3 ≡ m.times = last_third step m.times r.step in
      let shows : Shows m (begun_world o step).plain = rw time r.shows in
      let left : map device_of new ≡ (begun_world o step).devices = rw time r.left in
      record {
        due = failed_answer (job.Deck engine.Plain) o step port;
        run_is = failed step port (exchanged o n step port m (map device_of new) r) alone.rose alone.others;
        status = refl;
        devices = sym left;
        plain = (begun_world o step).plain;
        shows = shows;
        text = refl;
      }
  by_kept (Some Done) r quiet = absurd r

  module _ (h : HasRunPlainly device_of faults o n old new m) where
    comes : Comes device_of faults o n old new m (answer_of_end m.end)
    comes = by_kept m.end h.stands.ends h.cause

    -- it is what was told
    pub ran_plainly : (end : PlainEnd) (status : ℕ) (text : List ℕ) → end ≡ answer_of_end m.end → status ≡ end_status (outcome_of end)
        → ((p : PlainState) → Shows m p → text ≡ report_text title.Plain end p)
        → IsRun device_of faults (job.Deck engine.Plain) o n old new (answer_with status text (map device_of new))
    ran_plainly end status text is s t =
        let st : comes.due.status ≡ status = comes.status ∙ sym (s ∙ ap (λ (e : PlainEnd). end_status (outcome_of e)) is) in
        let x : comes.due.text ≡ text = comes.text ∙ sym (t comes.plain comes.shows ∙ ap (λ (e : PlainEnd). report_text title.Plain e comes.plain) is) in
        let d : comes.due.devices ≡ map device_of new = comes.devices in
        let same : comes.due ≡ answer_with status text (map device_of new) = λ i. answer_with (st i) (x i) (d i) in
        subst (λ (a : Answer). IsRun device_of faults (job.Deck engine.Plain) o n old new a) same comes.run_is

-- a deck's run that isn't reported
pub plain_unreported : {B : Type 0} (device_of : B → device.Device) (faults : B → ℕ) (deck : Deck) (old new : List B) (m : View)
    → HasRunPlainly device_of faults (trial_of (map device_of old) deck) deck.count old new m
    → IsUnreported device_of faults (job.Deck engine.Plain) deck old new
plain_unreported device_of faults deck old new m h =
    let c = comes device_of faults (trial_of (map device_of old) deck) deck.count old new m h in
    reporting c.due c.run_is (sym c.devices)
