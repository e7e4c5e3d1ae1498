-- Where the plain run comes to an exchange with a device before a script begins, a run under the script comes to it too.
use Rattle.std.proofs.Common.{◌≡◌, ℕ, zero, suc, ◌+◌, ◌-◌, ◌*◌, ◌/◌, ◌%◌, ◌≤◌, List, refl, sym, ap, ◌∙◌, subst, arith}
use Rattle.std.specs.declared.option.Option.{Option}
use Rattle.std.specs.declared.option.Option.TheVariants.{None, Some}
use Rattle.lvdc_map.specs.declared.placed.Placed.{Placed}
use Rattle.lvdc_port.specs.Device.{Device}
use Rattle.lvdc_port.specs.declared.requests.PortRequest.{PortRequest}
use Rattle.lvdc_port.specs.declared.requests.PortRequest.TheVariants.{Read, Write}
use Rattle.lvdc_plain.specs.Plain.{PlainState, World}
use Rattle.lvdc_plain.specs.Run.{Opening, run, IsOpening}
use Rattle.lvdc_plain.specs.Stands as plain
use Rattle.lvdc_plain.specs.View.{View}
use Rattle.lvdc_plain.specs.declared.records.Stop.{Stop}
use Rattle.lvdc_fault.specs.declared.event.Event.{Event}
use Rattle.lvdc_fault.specs.declared.verdict.Verdict.TheVariants.{Admissible}
use Rattle.lvdc_laws_phases.specs.Exchanges.{exchange_wish, made, exchange_in}
use Rattle.lvdc_laws_phases.specs.Standing.{Standing}
use Rattle.lvdc_model.specs.Exchanges.{begin_step, wished}
use Rattle.lvdc_model.specs.Judging.{first_bad_below}
use Rattle.lvdc_model.specs.Runs.{guarded, through}
use Rattle.lvdc_model.specs.Trial.{Trial, plain_in}
use Rattle.lvdc_model.specs.Voted.{Voted, voted_start}
use Rattle.lvdc_laws_runs.specs.Early.{AllBeginFrom}
use Rattle.lvdc_laws_voted.specs.Ends.{IsBegun, Comes, Good, Bad}
use Rattle.lvdc_laws_voted.specs.Relation.{Goes, Halts}
use Rattle.lvdc_machine.specs.Resumed.{FailedFrom}
use Rattle.lvdc_machine.specs.Steps.{NamesPort}
use Rattle.lvdc_machine.specs.declared.mode.Mode.TheVariants.{Through}
use Rattle.lvdc_runs.specs.Scripts.{trial_under}
use Rattle.lvdc_study.specs.Failures.{FailsUnder, FailsPlainly}
use Rattle.lvdc_study.specs.declared.fault.Unstudied.{Unstudied}
use Rattle.lvdc_study.specs.declared.fault.Unstudied.TheVariants.{NoMemory, Device as DeviceFailed}

-- ---- what the plain run asks of a port the voted one wishes

wish-names : (r : Option PortRequest) (s : Option Placed) (port : ℕ) → plain.Names r port → NamesPort (exchange_wish r s) port
wish-names (Some (Read named)) s port asked = asked
wish-names (Some (Write named word)) s port asked = asked
wish-names None s port asked = absurd asked

made-names : (stop : Option Stop) (hold : ℕ) (p : PlainState) (port : ℕ) → stop ≡ None → hold ≡ 0 → plain.Names (plain.request_at p) port
    → NamesPort (made stop hold p) port
made-names None zero p port running free asked = wish-names (plain.request_at p) _ port asked
made-names None (suc hold) p port running free asked = absurd (omega (arith, free))
made-names (Some s) hold p port running free asked = absurd (cc running)

-- it is asked in the last phase
last-names : (k : ℕ) (p : PlainState) (port : ℕ) → k ≡ 2 → p.stop ≡ None → p.hold ≡ 0 → plain.Names (plain.request_at p) port → NamesPort (exchange_in k p) port
last-names zero p port is running free asked = absurd (omega (arith, is))
last-names (suc zero) p port is running free asked = absurd (omega (arith, is))
last-names (suc (suc n)) p port is running free asked = made-names p.stop p.hold p port running free asked

-- ---- the run up to that step

module _ (admits : (o : Trial) (first : ℕ) → IsOpening o.opening → AllBeginFrom first o.script → (n : ℕ) → n ≤ first → first_bad_below o n ≡ Admissible)
    (comes : (o : Trial) → IsOpening o.opening → (n : ℕ) → Comes Standing o n)
    (begins : (o : Trial) → IsOpening o.opening → (n : ℕ) → first_bad_below o n ≡ Admissible → (guarded o n).end ≡ None → IsBegun o n (begin_step o (guarded o n)))
    (stays : (o : Opening) (times more : ℕ) (stop : Stop) → (run o times).plain.stop ≡ Some stop → run o (times + more) ≡ run o times)
    (goes : (o : Trial) (n : ℕ) → IsOpening o.opening → first_bad_below o n ≡ Admissible → through o n ≡ guarded o n) where
  module _ (o : Trial) (opens : IsOpening o.opening) (times : ℕ) (later : AllBeginFrom (3 * times) o.script)
      (m : View) (left : List Device) (step port : ℕ) (h : plain.HasFailed o.opening times m left step port) where
    good : first_bad_below o step ≡ Admissible
    good = let early = h.early in let is = h.step in admits o (3 * times) opens later step (omega (arith, early, is))

    -- the plain run has not stopped before it, so neither has this one
    going-by : Comes Standing o step → (guarded o step).end ≡ None × (guarded o step).steps ≡ step
    going-by (Good all (Goes steps kept)) = (kept.going, steps)
    going-by (Good all (Halts steps halted)) =
        let is = h.step in
        let whole = halted.whole in
        let made : m.times ≡ (guarded o step).steps / 3 + (m.times - (guarded o step).steps / 3) = omega (arith, is, whole, steps) in
        let same : run o.opening m.times ≡ run o.opening ((guarded o step).steps / 3) =
        ap (run o.opening) made ∙ stays o.opening ((guarded o step).steps / 3) (m.times - (guarded o step).steps / 3) halted.why halted.stopped in
        let stopped : (run o.opening m.times).plain.stop ≡ Some halted.why = ap (λ (w : World). w.plain.stop) same ∙ halted.stopped in
        let running = h.stop in
        absurd (cc (stopped, running))
    going-by (Bad bad less first same ends) = absurd (ends.bad (sym first ∙ good))

    wished-there : NamesPort (wished o (begin_step o (guarded o step))) port
    wished-there =
        let is = h.step in
        let time : step / 3 ≡ m.times = omega (arith, is) in
        let last : step % 3 ≡ 2 = omega (arith, is) in
        let p : plain_in o step ≡ (run o.opening m.times).plain = ap (λ (k : ℕ). (run o.opening k).plain) time in
        let asked : NamesPort (exchange_in (step % 3) (plain_in o step)) port =
        subst (λ (q : PlainState). NamesPort (exchange_in (step % 3) q) port) (sym p)
        (last-names (step % 3) (run o.opening m.times).plain port last h.stop h.hold h.asked) in
        subst (λ w. NamesPort w port) (sym (begins o opens step good (going-by (comes o opens step)).0).wish) asked

    failed-there : (count : ℕ) → times ≤ count → FailedFrom o (voted_start o) (3 * count) Through step port
    failed-there count within =
        let early = h.early in
        let is = h.step in
        let same : through o step ≡ guarded o step = goes o step opens good in
        let there = going-by (comes o opens step) in
        record {
          later = omega arith;
          early = omega (arith, early, is, within);
          going = ap (λ (v : Voted). v.end) same ∙ there.0;
          steps = ap (λ (v : Voted). v.steps) same ∙ there.1;
          admitted = refl;
          asked = subst (λ (v : Voted). NamesPort (wished o (begin_step o v)) port) (sym same) wished-there;
        }

  pub fails-early : (opening : Opening) (script : List Event) (times count : ℕ) → IsOpening opening → AllBeginFrom (3 * times) script → times ≤ count
      → (e : Unstudied) → FailsPlainly opening times e → FailsUnder (trial_under opening script) count e
  fails-early opening script times count opens later within NoMemory fails = tt
  fails-early opening script times count opens later within (DeviceFailed port) fails =
      let plainly = fails.1 in (
        fails.0,
        record {
          mode = Through;
          exchange = failed-there (trial_under opening script) opens times later plainly.machine plainly.left fails.0 port plainly.exchange count within;
        },
      )
