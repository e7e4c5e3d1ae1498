-- What a run of the voted machine notes: in each step one exchange or one repair at most.
use Rattle.std.proofs.Common.{ℕ, zero, suc, ◌+◌, ◌<◌, ◌≤◌, List, [], Bool, length, All, length-append, arith}
use Rattle.std.specs.Prelude.{Result, Ok, Err}
use Rattle.std.specs.declared.option.Option.{Option}
use Rattle.std.specs.declared.option.Option.TheVariants.{None, Some}
use Rattle.std.proofs.lemmas.List.Elements.{All-nil, All-cons, All-append, All-weaker}
use Rattle.lvdc_map.specs.Address.{Spot}
use Rattle.lvdc_twin.specs.declared.both_bad.BothBad.{BothBad}
use Rattle.lvdc_twin.specs.declared.read_out.ReadOut.{ReadOut}
use Rattle.lvdc_modules.specs.declared.wanted.Wanted.{Wanted}
use Rattle.lvdc_modules.specs.declared.wanted.Wanted.TheVariants.{Nothing, Fetch, Operand, Store, PortRead, PortWrite}
use Rattle.lvdc_fault.specs.declared.verdict.Verdict.{Verdict}
use Rattle.lvdc_fault.specs.declared.verdict.Verdict.TheVariants as verdicts
use Rattle.lvdc_model.specs.declared.outcome.Outcome.{Outcome}
use Rattle.lvdc_model.specs.declared.outcome.Outcome.TheVariants as outcomes
use Rattle.lvdc_model.specs.declared.repair.Repair.{Repair}
use Rattle.lvdc_model.specs.Exchanges.{begin_step, with_end, latches, repair_by, reading, exchanges, wished}
use Rattle.lvdc_model.specs.Runs.{after_steps, through_step, through_by, alone_step, alone_by, judged_by, own_verdict}
use Rattle.lvdc_model.specs.Trial.{Trial}
use Rattle.lvdc_model.specs.Twins.{read_answer}
use Rattle.lvdc_model.specs.Voted.{Voted, voted_start}
use Rattle.lvdc_machine.specs.Resumed.{steps_since, run_to, state_from}
use Rattle.lvdc_machine.specs.Steps.{run_from}
use Rattle.lvdc_machine.specs.declared.mode.Mode.{Mode}
use Rattle.lvdc_machine.specs.declared.mode.Mode.TheVariants.{Guarded, Through}

-- each repair was noted in a step below this
abbrev pub AreBelow : ℕ → List Repair → Type 0
AreBelow steps repairs = All (λ (r : Repair). r.step < steps) repairs

-- since a first state log and repairs have together grown by no more lines than steps were made, and each repair was noted in a
-- step before the next one
pub record HasFewNotes (first v : Voted) : Type 0 where
  pub few : first.steps + (length v.log + length v.repairs) ≤ length first.log + length first.repairs + v.steps
  pub dated : AreBelow v.steps v.repairs

-- steps below a number are below every greater one
pub below_more : (low high : ℕ) (repairs : List Repair) → low ≤ high → AreBelow low repairs → AreBelow high repairs
below_more low high repairs h below =
    All-weaker (λ (r : Repair). r.step < low) (λ (r : Repair). r.step < high) (λ r early. omega (arith, h, early)) repairs below

repair_by_few : (repaired : Option ℕ) (step : ℕ) (at : Spot) (switched : Bool) → length (repair_by repaired step at switched) ≤ 1
repair_by_few None step at switched = omega arith
repair_by_few (Some twin) step at switched = omega arith

repair_by_dated : (repaired : Option ℕ) (step : ℕ) (at : Spot) (switched : Bool) → AreBelow (suc step) (repair_by repaired step at switched)
repair_by_dated None step at switched = All-nil (λ (r : Repair). r.step < suc step)
repair_by_dated (Some twin) step at switched =
    All-cons (λ (r : Repair). r.step < suc step) (record { step = step; at = at; twin = twin; switched = switched }) [] (omega arith)
    (All-nil (λ (r : Repair). r.step < suc step))

-- the step that is latched is counted
latches_noted : (f : Voted) (o : Trial) (v : Voted) (memory port : ℕ)
    → f.steps + (length v.log + length v.repairs) ≤ length f.log + length f.repairs + suc v.steps → AreBelow (suc v.steps) v.repairs
    → HasFewNotes f (latches o v memory port)
latches_noted f o v memory port few dated = record { few = few; dated = dated }

reading_noted : (f : Voted) (answer : Result ReadOut BothBad) (o : Trial) (v : Voted) (at : Spot) → HasFewNotes f v → HasFewNotes f (reading answer o v at)
reading_noted f (Err bad) o v at n = record { few = n.few; dated = n.dated }
reading_noted f (Ok r) o v at n = record {
  few = omega (arith, n.few, length-append v.repairs (repair_by r.repaired v.steps at r.switched), repair_by_few r.repaired v.steps at r.switched);
  dated = All-append (λ (p : Repair). p.step < suc v.steps) v.repairs (repair_by r.repaired v.steps at r.switched)
      (below_more v.steps (suc v.steps) v.repairs (omega arith) n.dated) (repair_by_dated r.repaired v.steps at r.switched);
}

exchanges_noted : (f : Voted) (o : Trial) (v : Voted) (wanted : Wanted) → HasFewNotes f v → HasFewNotes f (exchanges o v wanted)
exchanges_noted f o v Nothing n = record { few = omega (arith, n.few); dated = below_more v.steps (suc v.steps) v.repairs (omega arith) n.dated }
exchanges_noted f o v (Fetch at) n = reading_noted f (read_answer o v.steps v.twins at) o v at n
exchanges_noted f o v (Operand at) n = reading_noted f (read_answer o v.steps v.twins at) o v at n
exchanges_noted f o v (Store at word) n = record { few = omega (arith, n.few); dated = below_more v.steps (suc v.steps) v.repairs (omega arith) n.dated }
exchanges_noted f o v (PortRead port) n = record {
  few = simp length-append (omega (arith, n.few));
  dated = below_more v.steps (suc v.steps) v.repairs (omega arith) n.dated;
}
exchanges_noted f o v (PortWrite port word) n = record {
  few = simp length-append (omega (arith, n.few));
  dated = below_more v.steps (suc v.steps) v.repairs (omega arith) n.dated;
}

prepared_noted : (f : Voted) (o : Trial) (v : Voted) → HasFewNotes f v → HasFewNotes f (begin_step o v)
prepared_noted f o v n = record { few = n.few; dated = n.dated }

ended_noted : (f : Voted) (v : Voted) (e : Outcome) → HasFewNotes f v → HasFewNotes f (with_end v e)
ended_noted f v e n = record { few = n.few; dated = n.dated }

through_by_noted : (f : Voted) (end : Option Outcome) (o : Trial) (v : Voted) → HasFewNotes f v → HasFewNotes f (through_by end o v)
through_by_noted f (Some e) o v n = n
through_by_noted f None o v n = exchanges_noted f o (begin_step o v) (wished o (begin_step o v)) (prepared_noted f o v n)

-- the run of either kind from a state
through_noted : (f : Voted) → AreBelow f.steps f.repairs → (o : Trial) (t : ℕ) → HasFewNotes f (after_steps (through_step o) f t)
through_noted f below o zero = record { few = omega arith; dated = below }
through_noted f below o (suc t) =
    let v = after_steps (through_step o) f t in
    through_by_noted f v.end o v (through_noted f below o t)

judged_by_noted : (f : Voted) (verdict : Verdict) (o : Trial) (v : Voted) → HasFewNotes f v → HasFewNotes f (judged_by verdict o v)
judged_by_noted f verdicts.Admissible o v n = exchanges_noted f o v (wished o v) n
judged_by_noted f (verdicts.Logic step m) o v n = ended_noted f v (outcomes.Inadmissible (verdicts.Logic step m)) n
judged_by_noted f (verdicts.Memory step at) o v n = ended_noted f v (outcomes.Inadmissible (verdicts.Memory step at)) n

alone_by_noted : (f : Voted) (end : Option Outcome) (o : Trial) (v : Voted) → HasFewNotes f v → HasFewNotes f (alone_by end o v)
alone_by_noted f (Some e) o v n = n
alone_by_noted f None o v n = judged_by_noted f (own_verdict o (begin_step o v)) o (begin_step o v) (prepared_noted f o v n)

alone_noted : (f : Voted) → AreBelow f.steps f.repairs → (o : Trial) (t : ℕ) → HasFewNotes f (after_steps (alone_step o) f t)
alone_noted f below o zero = record { few = omega arith; dated = below }
alone_noted f below o (suc t) =
    let v = after_steps (alone_step o) f t in
    alone_by_noted f v.end o v (alone_noted f below o t)

run_from_noted : (f : Voted) → AreBelow f.steps f.repairs → (mode : Mode) (o : Trial) (t : ℕ) → HasFewNotes f (run_from mode o f t)
run_from_noted f below Guarded o t = alone_noted f below o t
run_from_noted f below Through o t = through_noted f below o t

-- whatever end a machine has come to
pub state_from_noted : (f : Voted) → AreBelow f.steps f.repairs → (end : Option Outcome) (mode : Mode) (o : Trial) (n : ℕ)
    → HasFewNotes f (state_from end mode o f n)
state_from_noted f below None mode o n = run_from_noted f below mode o n
state_from_noted f below (Some outcomes.Done) mode o n = run_from_noted f below mode o n
state_from_noted f below (Some (outcomes.Stopped step stop)) mode o n = run_from_noted f below mode o n
state_from_noted f below (Some (outcomes.Inadmissible verdict)) mode o n = run_from_noted f below mode o n
state_from_noted f below (Some (outcomes.Device step port)) mode o n =
    let v = run_to mode o f step in
    ended_noted f (begin_step o v) (outcomes.Device step port) (prepared_noted f o v (run_from_noted f below mode o (steps_since f.steps step)))

-- at the start nothing is noted
pub start_below : (o : Trial) → AreBelow (voted_start o).steps (voted_start o).repairs
start_below o = All-nil (λ (r : Repair). r.step < 0)
