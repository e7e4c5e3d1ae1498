-- A run goes on from any of its states.
use Rattle.std.proofs.Common.{◌≡◌, ℕ, zero, suc, ◌+◌, ◌-◌, ◌*◌, ◌≤◌, List, refl, sym, ap, ◌∙◌, subst, arith, add-zero, add-suc}
use Rattle.std.specs.declared.option.Option.{Option}
use Rattle.std.specs.declared.option.Option.TheVariants.{None, Some}
use Rattle.lvdc_port.specs.Device as device
use Rattle.lvdc_model.specs.Exchanges.{begin_step, with_end, wished}
use Rattle.lvdc_model.specs.Trial.{Trial}
use Rattle.lvdc_model.specs.Voted.{Voted, voted_start}
use Rattle.lvdc_fault.specs.declared.verdict.Verdict.TheVariants.{Admissible}
use Rattle.lvdc_model.specs.declared.outcome.Outcome.{Outcome}
use Rattle.lvdc_model.specs.declared.outcome.Outcome.TheVariants.{Done, Stopped, Inadmissible, Device}
use Rattle.lvdc_machine.specs.declared.mode.Mode.{Mode}
use Rattle.lvdc_machine.specs.Resumed.{steps_after, steps_since, run_to, state_from, EndsFrom, StandsFrom}
use Rattle.lvdc_machine.specs.Shows.{Shows}
use Rattle.lvdc_machine.specs.Stands.{Stands}
use Rattle.lvdc_machine.specs.Steps.{step_of, run_from, run_of, verdict_of, NamesPort}
use Rattle.lvdc_machine.specs.View.{View}

-- ---- steps counted from a state

-- steps after so many are added to them
pub after-sum : (made n : ℕ) → steps_after made n ≡ made + n
after-sum zero n = omega arith
after-sum (suc made) n = refl

-- no steps after them change nothing
pub after-none : (made : ℕ) → steps_after made 0 ≡ made
after-none zero = refl
after-none (suc made) = omega arith

-- and a step lies after so many by the difference
pub since-difference : (made step : ℕ) → steps_since made step ≡ step - made
since-difference zero step = omega arith
since-difference (suc made) step = refl

-- ---- on from a state

-- the run from a state of a run is that run, later
pub run-on : (mode : Mode) (o : Trial) (r : Voted) (t n : ℕ) → run_from mode o (run_from mode o r t) n ≡ run_from mode o r (t + n)
run-on mode o r t zero = ap (run_from mode o r) (sym (add-zero t))
run-on mode o r t (suc n) = ap (step_of mode o) (run-on mode o r t n) ∙ ap (run_from mode o r) (sym (add-suc t n))

-- so it comes to the same state before a later step
to-on : (mode : Mode) (o : Trial) (r : Voted) (t step : ℕ) → (run_from mode o r t).steps ≡ steps_after r.steps t → (run_from mode o r t).steps ≤ step
    → run_to mode o (run_from mode o r t) step ≡ run_to mode o r step
to-on mode o r t step steps later =
    let made = (run_from mode o r t).steps in
    let same : t + steps_since made step ≡ steps_since r.steps step =
    omega (arith, steps, later, after-sum r.steps t, since-difference made step, since-difference r.steps step) in
    run-on mode o r t (steps_since made step) ∙ ap (run_from mode o r) same

-- as many steps after some steps after a state are so many more after that state
after-on : (mode : Mode) (o : Trial) (r : Voted) (t n : ℕ) → (run_from mode o r t).steps ≡ steps_after r.steps t
    → steps_after (run_from mode o r t).steps n ≡ steps_after r.steps (t + n)
after-on mode o r t n is =
    omega (arith, is, after-sum r.steps t, after-sum r.steps (t + n), after-sum (run_from mode o r t).steps n)

-- so the state of a machine is the same in both, by its end
shows-on : (end : Option Outcome) (mode : Mode) (o : Trial) (r : Voted) (t n : ℕ) (steps : ℕ) → (run_from mode o r t).steps ≡ steps_after r.steps t
    → EndsFrom end o (run_from mode o r t) n mode steps → state_from end mode o (run_from mode o r t) n ≡ state_from end mode o r (t + n)
shows-on None mode o r t n steps is ends = run-on mode o r t n
shows-on (Some Done) mode o r t n steps is ends = absurd ends
shows-on (Some (Stopped step stop)) mode o r t n steps is ends = run-on mode o r t n
shows-on (Some (Inadmissible w)) mode o r t n steps is ends = run-on mode o r t n
shows-on (Some (Device step port)) mode o r t n steps is ends =
    ap (λ (v : Voted). with_end (begin_step o v) (Device step port)) (to-on mode o r t step is ends.later)

-- and so is what the end says
ends-on : (end : Option Outcome) (mode : Mode) (o : Trial) (r : Voted) (t n : ℕ) (steps : ℕ) → (run_from mode o r t).steps ≡ steps_after r.steps t
    → EndsFrom end o (run_from mode o r t) n mode steps → EndsFrom end o r (t + n) mode steps
ends-on None mode o r t n steps is ends = ends ∙ after-on mode o r t n is
ends-on (Some Done) mode o r t n steps is ends = absurd ends
ends-on (Some (Stopped step stop)) mode o r t n steps is ends = omega (arith, after-on mode o r t n is, ends)
ends-on (Some (Inadmissible w)) mode o r t n steps is ends = omega (arith, after-on mode o r t n is, ends)
ends-on (Some (Device step port)) mode o r t n steps is ends =
    let same = to-on mode o r t step is ends.later in
    let later = ends.later in
    let early = ends.early in
    record {
      later = omega (arith, is, later, after-sum r.steps t);
      early = omega (arith, after-on mode o r t n is, early);
      going = subst (λ (v : Voted). v.end ≡ None) same ends.going;
      steps = subst (λ (v : Voted). v.steps ≡ step) same ends.steps;
      admitted = subst (λ (v : Voted). verdict_of mode o (begin_step o v) ≡ Admissible) same ends.admitted;
      asked = subst (λ (v : Voted). NamesPort (wished o (begin_step o v)) port) same ends.asked;
    }

-- what stands in the run from a state of a run stands in that run
pub stands-on : (o : Trial) (r : Voted) (t n : ℕ) (m : View) (ds : List device.Device) → (run_from m.mode o r t).steps ≡ steps_after r.steps t
    → StandsFrom o (run_from m.mode o r t) n m ds → StandsFrom o r (t + n) m ds
stands-on o r t n m ds is h = record {
  shows = subst (λ (v : Voted). Shows o m ds v) (shows-on m.end m.mode o r t n m.steps is h.ends) h.shows;
  begun = h.begun;
  ends = ends-on m.end m.mode o r t n m.steps is h.ends;
}

-- a machine that runs has made as many steps as its run
steps-made : (o : Trial) (r : Voted) (t : ℕ) (m : View) (ds : List device.Device) (end : Option Outcome) → end ≡ None
    → Shows o m ds (state_from end m.mode o r t) → EndsFrom end o r t m.mode m.steps → (run_from m.mode o r t).steps ≡ steps_after r.steps t
steps-made o r t m ds None none s ends = sym s.steps ∙ ends
steps-made o r t m ds (Some e) none s ends = absurd (cc none)

-- what stands in the run from the state of a machine that runs stands in its run
pub stands-goes_on : (o : Trial) (t n : ℕ) (before after : View) (ds left : List device.Device) → Stands o t before ds → before.end ≡ None
    → after.mode ≡ before.mode → StandsFrom o (run_of before.mode o t) n after left → Stands o (t + n) after left
stands-goes_on o t n before after ds left h none mode g =
    let made = steps-made o (voted_start o) t before ds before.end none h.shows h.ends in
    let same = sym mode in
    stands-on o (voted_start o) t n after left (subst (λ (k : Mode). (run_of k o t).steps ≡ steps_after (voted_start o).steps t) same made)
    (subst (λ (k : Mode). StandsFrom o (run_of k o t) n after left) same g)

-- so many times are three times as many steps
pub stands-times : (o : Trial) (t times : ℕ) (m : View) (ds : List device.Device) → Stands o (3 * t + 3 * times) m ds → Stands o (3 * (t + times)) m ds
stands-times o t times m ds h = let same : 3 * t + 3 * times ≡ 3 * (t + times) = omega arith in subst (λ (k : ℕ). Stands o k m ds) same h
