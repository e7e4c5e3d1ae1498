-- A guarded machine follows the plain run.
use Rattle.std.proofs.Common.{◌≡◌, ◌≢◌, ℕ, zero, suc, ◌+◌, ◌-◌, ◌*◌, List, refl, sym, ap, ◌∙◌, subst, arith}
use Rattle.std.specs.declared.option.Option.{Option}
use Rattle.std.specs.declared.option.Option.TheVariants.{None, Some}
use Rattle.lvdc_port.specs.Device as device
use Rattle.lvdc_plain.specs.View.{ByInstruction}
use Rattle.lvdc_plain.specs.declared.records.Stop.{Stop}
use Rattle.lvdc_fault.specs.declared.verdict.Verdict.{Verdict}
use Rattle.lvdc_fault.specs.declared.verdict.Verdict.TheVariants.{Admissible}
use Rattle.lvdc_laws_phases.specs.Standing.{Standing}
use Rattle.lvdc_model.specs.declared.outcome.Outcome.{Outcome}
use Rattle.lvdc_model.specs.declared.outcome.Outcome.TheVariants.{Done, Stopped, Inadmissible, Device}
use Rattle.lvdc_model.specs.Exchanges.{begin_step, with_end}
use Rattle.lvdc_model.specs.Judging.{first_bad, first_bad_below}
use Rattle.lvdc_model.specs.Runs.{guarded, alone, own_verdict}
use Rattle.lvdc_model.specs.Trial.{Trial}
use Rattle.lvdc_model.specs.Voted.{Voted}
use Rattle.lvdc_laws_voted.specs.Ends.{ShowsTimes, IsBegun, EndsAt, Comes, Good, Bad}
use Rattle.lvdc_laws_voted.specs.Relation.{IsOnCourse, Goes, Halts}
use Rattle.lvdc_machine.specs.declared.mode.Mode.{Mode}
use Rattle.lvdc_machine.specs.declared.mode.Mode.TheVariants.{Guarded}
use Rattle.lvdc_laws_runs.specs.Guarded.{IsPlain, IsRefused, GuardedBy}
use Rattle.lvdc_machine.specs.Stands.{Stands, EndsAs, state_by}
use Rattle.lvdc_machine.specs.Steps.{run_of}
use Rattle.lvdc_machine.specs.View.{View}

-- where it has ended at an inadmissible step, that is its end
end-bad : (o : Trial) (n m : ℕ) → guarded o n ≡ guarded o (suc m) → EndsAt o m → (guarded o n).end ≡ Some (Inadmissible (first_bad_below o (suc m)))
end-bad o n m same h = ap (λ (v : Voted). v.end) same ∙ ap (λ (v : Voted). v.end) h.ends

-- no end: no step was inadmissible
pub going-good : (o : Trial) (n : ℕ) → Comes Standing o n → (guarded o n).end ≡ None → first_bad_below o n ≡ Admissible
going-good o n (Good good follows) none = good
going-good o n (Bad m less first same ends) none = let bad = end-bad o n m same ends in absurd (cc (bad, none))

-- a stop: none was, and an instruction is the cause
stop-good : (o : Trial) (n step : ℕ) (stop : Stop) → Comes Standing o n → (guarded o n).end ≡ Some (Stopped step stop) → first_bad_below o n ≡ Admissible
stop-good o n step stop (Good good follows) is = good
stop-good o n step stop (Bad m less first same ends) is = let bad = end-bad o n m same ends in absurd (cc (bad, is))

-- its cause is an instruction
stop-cause : (o : Trial) (n step : ℕ) (stop : Stop) → Comes Standing o n → (guarded o n).end ≡ Some (Stopped step stop) → ByInstruction (Some stop)
stop-cause o n step stop (Good good (Goes steps kept)) is = let going = kept.going in absurd (cc (going, is))
stop-cause o n step stop (Good good (Halts steps halted)) is =
    let ended = halted.ended in
    let same : halted.why ≡ stop = cc (ended, is) in
    subst (λ (s : Stop). ByInstruction (Some s)) same halted.cause
stop-cause o n step stop (Bad m less first same ends) is = let bad = end-bad o n m same ends in absurd (cc (bad, is))

-- a verdict: that of the first inadmissible step
refused : (o : Trial) (n : ℕ) (w : Verdict) → Comes Standing o n → (guarded o n).end ≡ Some (Inadmissible w) → IsRefused o n w (guarded o n)
refused o n w (Good good (Goes steps kept)) is = let going = kept.going in absurd (cc (going, is))
refused o n w (Good good (Halts steps halted)) is = let ended = halted.ended in absurd (cc (ended, is))
refused o n w (Bad m less first same ends) is =
    let bad = end-bad o n m same ends in
    let verdict : first_bad_below o (suc m) ≡ w = cc (bad, is) in
    record {
      first = sym verdict ∙ sym first;
      bad = subst (λ (x : Verdict). x ≢ Admissible) verdict ends.bad;
      step = m;
      early = less;
      begun = ends.begun;
      state = same ∙ ends.ends ∙ ap (λ x. with_end (begin_step o (guarded o m)) (Inadmissible x)) verdict;
    }

-- a step that the machine itself admits is admissible
found-good : (o : Trial) (step : ℕ) → Comes Standing o (suc step) → (guarded o step).end ≡ None → own_verdict o (begin_step o (guarded o step)) ≡ Admissible
    → first_bad_below o (suc step) ≡ Admissible
found-good o step (Good good follows) going found-it = good
found-good o step (Bad m less first same ends) going found-it = by_step (step - m) refl
  where
    by_step : (k : ℕ) → k ≡ step - m → first_bad_below o (suc step) ≡ Admissible
    by_step zero is =
        let at : m ≡ step = omega (arith, less, is) in
        let found_there = ends.found in
        absurd (ends.bad (sym found_there ∙ ap (λ (k : ℕ). own_verdict o (begin_step o (guarded o k))) at ∙ found-it))
    by_step (suc k) is =
        let at : k + suc m ≡ step = omega (arith, less, is) in
        let bad = ap (λ (v : Voted). v.end) (ends.stays k ∙ ends.ends) in
        let none = ap (λ (j : ℕ). (guarded o j).end) at ∙ going in
        absurd (cc (bad, none))

-- no end: the whole relation is kept
kept-on : (o : Trial) (n : ℕ) → Comes Standing o n → (guarded o n).end ≡ None → IsOnCourse Standing o n (guarded o n)
kept-on o n (Good good (Goes steps kept)) none = kept
kept-on o n (Good good (Halts steps halted)) none = let ended = halted.ended in absurd (cc (ended, none))
kept-on o n (Bad m less first same ends) none = let bad = end-bad o n m same ends in absurd (cc (bad, none))

-- so of a machine that stands
pub keeps : (o : Trial) (n : ℕ) (m : View) (ds : List device.Device) → Comes Standing o n → alone o n ≡ guarded o n
    → m.mode ≡ Guarded → m.end ≡ None → Stands o n m ds → IsOnCourse Standing o n (state_by m.end m.mode o n)
keeps o n m ds comes same mode none h =
    let state : state_by m.end m.mode o n ≡ guarded o n = (λ i. state_by (none i) (mode i) o n) ∙ same in
    let there : (guarded o n).end ≡ None = ap (λ (v : Voted). v.end) (sym state) ∙ sym h.shows.end ∙ none in
    subst (λ (v : Voted). IsOnCourse Standing o n v) (sym state) (kept-on o n comes there)

-- so by every end
pub follows : (o : Trial) (n : ℕ) (m : View) (ds : List device.Device)
    → ((k : ℕ) → Comes Standing o k)
    → ((k : ℕ) → alone o k ≡ guarded o k)
    → ((k : ℕ) → first_bad o k ≡ Admissible → ShowsTimes o k (guarded o (3 * k)))
    → ((k : ℕ) → first_bad_below o k ≡ Admissible → (guarded o k).end ≡ None → IsBegun o k (begin_step o (guarded o k)))
    → m.mode ≡ Guarded → Stands o n m ds → GuardedBy m.end o n (state_by m.end m.mode o n)
follows o n m ds comes same times begun mode h =
    by_end m.end (sym h.shows.end) (subst (λ (k : Mode). EndsAs m.end o n k m.steps) mode h.ends)
  where
    plain : (v : Voted) → first_bad_below o n ≡ Admissible → v ≡ guarded o n → IsPlain o n v
    plain v good is = record {
      admissible = good;
      times = λ k whole. subst (λ (w : Voted). ShowsTimes o k w) (ap (λ (j : ℕ). guarded o j) (sym whole) ∙ sym is)
          (times k (subst (λ (j : ℕ). first_bad_below o j ≡ Admissible) whole good));
    }

    by_end : (end : Option Outcome) → (state_by end m.mode o n).end ≡ end → EndsAs end o n Guarded m.steps → GuardedBy end o n (state_by end m.mode o n)
    by_end None is ends =
        let state : run_of m.mode o n ≡ guarded o n = ap (λ (k : Mode). run_of k o n) mode ∙ same n in
        plain _ (going-good o n (comes n) (ap (λ (v : Voted). v.end) (sym state) ∙ is)) state
    by_end (Some Done) is ends = absurd ends
    by_end (Some (Stopped step stop)) is ends =
        let state : run_of m.mode o n ≡ guarded o n = ap (λ (k : Mode). run_of k o n) mode ∙ same n in
        let there = ap (λ (v : Voted). v.end) (sym state) ∙ is in
        (plain _ (stop-good o n step stop (comes n) there) state, stop-cause o n step stop (comes n) there)
    by_end (Some (Inadmissible w)) is ends =
        let state : run_of m.mode o n ≡ guarded o n = ap (λ (k : Mode). run_of k o n) mode ∙ same n in
        subst (λ (v : Voted). IsRefused o n w v) (sym state) (refused o n w (comes n) (ap (λ (v : Voted). v.end) (sym state) ∙ is))
    by_end (Some (Device step port)) is ends =
        let state : run_of m.mode o step ≡ guarded o step = ap (λ (k : Mode). run_of k o step) mode ∙ same step in
        let going : (guarded o step).end ≡ None = ap (λ (v : Voted). v.end) (sym (same step)) ∙ ends.going in
        let found_it : own_verdict o (begin_step o (guarded o step)) ≡ Admissible = ap (λ (v : Voted). own_verdict o (begin_step o v)) (sym (same step)) ∙ ends.admitted in
        record {
          admissible = found-good o step (comes (suc step)) going found_it;
          begun = begun step (going-good o step (comes step) going) going;
          state = ap (λ (v : Voted). with_end (begin_step o v) (Device step port)) state;
        }
