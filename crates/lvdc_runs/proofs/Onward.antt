-- A machine that judged a script goes on, through every fault.
use Rattle.std.proofs.Common.{◌≡◌, ◌≢◌, ℕ, ◌+◌, ◌-◌, ◌*◌, ◌≤◌, List, length, refl, ap, subst, arith}
use Rattle.std.specs.declared.option.Option.{Option}
use Rattle.std.specs.declared.option.Option.TheVariants.{None, Some}
use Rattle.lvdc_port.specs.Device as device
use Rattle.lvdc_fault.specs.declared.verdict.Verdict.TheVariants.{Admissible}
use Rattle.lvdc_model.specs.Trial.{Trial}
use Rattle.lvdc_model.specs.Voted.{voted_start}
use Rattle.lvdc_model.specs.declared.outcome.Outcome.{Outcome}
use Rattle.lvdc_model.specs.declared.outcome.Outcome.TheVariants.{Done, Stopped, Inadmissible, Device}
use Rattle.lvdc_machine.specs.Onward.{IsRefusal, HasRefused}
use Rattle.lvdc_machine.specs.Stands.{state_by, Stands}
use Rattle.lvdc_machine.specs.View.{View}
use Rattle.lvdc_machine.proofs.Refused.{refused-stands}
use Rattle.lvdc_machine.proofs.Resuming.{stands-kept}
use Rattle.lvdc_report.proofs.Noted.{state_from_noted, start_below}
use Rattle.lvdc_runs.specs.Ran.{HasRunWithin, HasRunGuarded, verdict_in}

-- where the verdict isn't Admissible it is what was said against a step
refusal-of : (end : Option Outcome) → verdict_in end ≢ Admissible → IsRefusal end
refusal-of None bad = absurd (bad refl)
refusal-of (Some Done) bad = absurd (bad refl)
refusal-of (Some (Stopped step stop)) bad = absurd (bad refl)
refusal-of (Some (Inadmissible verdict)) bad = tt
refusal-of (Some (Device step port)) bad = absurd (bad refl)

-- and there is an end
refusal-end : (end : Option Outcome) → verdict_in end ≢ Admissible → (e : Outcome) × (end ≡ Some e)
refusal-end None bad = absurd (bad refl)
refusal-end (Some e) bad = (e, refl)

-- the log of a machine that stands in a run has no more lines than steps were made
few-lines : (o : Trial) (n : ℕ) (m : View) (left : List device.Device) → Stands o n m left → length m.log ≤ m.steps
few-lines o n m left h =
    let v = state_by m.end m.mode o n in
    let few : 0 + (length v.log + length v.repairs) ≤ 0 + 0 + v.steps = (state_from_noted (voted_start o) (start_below o) m.end m.mode o n).few in
    let log = ap length h.shows.log in
    let steps = h.shows.steps in
    omega (arith, few, log, steps)

-- a machine that has said something against a step has made all times
pub refused-all : (o : Trial) (times most : ℕ) (m : View) (left : List device.Device) → times ≤ most → HasRunWithin o times most m left → verdict_in m.end ≢ Admissible
    → HasRunGuarded o most m left
refused-all o times most m left within h bad =
    let said = refusal-end m.end bad in
    let all : 3 * times + (3 * most - 3 * times) ≡ 3 * most = omega (arith, within) in
    let stands : Stands o (3 * most) m left =
    subst (λ (n : ℕ). Stands o n m left) all (stands-kept o (voted_start o) (3 * times) (3 * most - 3 * times) m left said.0 said.1 h.stands) in
    record {
      run = record {
        opening = h.run.opening;
        banks = h.run.banks;
        script = h.run.script;
        mode_is = h.run.mode_is;
        left = left;
        stands = stands;
        unfailed = h.run.unfailed;
      };
      stands = stands;
      distinct = h.distinct;
      limit = h.limit;
    }

-- so the machine may go on
pub may-go-on : (o : Trial) (times : ℕ) (m : View) (left : List device.Device) → HasRunGuarded o times m left → verdict_in m.end ≢ Admissible → HasRefused m
may-go-on o times m left h bad =
    let limit = h.limit in
    refused-stands o (voted_start o) (3 * times) m left h.stands h.run.mode_is (few-lines o (3 * times) m left h.stands) (refusal-of m.end bad) (omega (arith, limit))
