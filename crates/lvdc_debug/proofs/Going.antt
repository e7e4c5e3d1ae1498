-- A machine that goes on: where it then stands, and that what it had run before is the same.
use Rattle.std.proofs.Common.{◌≡◌, ℕ, zero, suc, ◌+◌, ◌*◌, ◌≤◌, List, map, true, false, None, Some, IsSome, IsNone, Result, Ok, Err, OnErr, refl, sym, ap, subst, ◌∙◌, arith}
use Rattle.std.specs.Prelude.{nat_lt}
use Rattle.std.specs.declared.option.Option.{Option}
use Rattle.std.proofs.lemmas.Bool.Decides.{nat_tests}
use Rattle.lvdc_port.specs.Causes.{Rose}
use Rattle.lvdc_port.specs.Device as device
use Rattle.lvdc_port.specs.Devices.{has_port, count_at}
use Rattle.lvdc_port.proofs.Lists.{rose-has}
use Rattle.lvdc_model.specs.Runs.{guarded}
use Rattle.lvdc_model.specs.Trial.{Trial}
use Rattle.lvdc_model.specs.Voted.{Voted, voted_start}
use Rattle.lvdc_model.specs.declared.outcome.Outcome.{Outcome}
use Rattle.lvdc_model.specs.declared.outcome.Outcome.TheVariants.{Done, Stopped, Inadmissible, Device}
use Rattle.lvdc_machine.specs.Calls.{LeavesAfterSteps, Answers}
use Rattle.lvdc_machine.specs.Causes.{Caused}
use Rattle.lvdc_machine.specs.Resumed.{StandsFrom, EndsFrom, state_from, steps_after}
use Rattle.lvdc_machine.specs.Shows.{Shows}
use Rattle.lvdc_machine.specs.Stands.{Stands}
use Rattle.lvdc_machine.specs.View.{View, answer_of_end}
use Rattle.lvdc_machine.specs.declared.mode.Mode.{Mode}
use Rattle.lvdc_debug.specs.Session.{state_after}
use Rattle.lvdc_debug.specs.Session.{Subject}
use Rattle.lvdc_debug.specs.Standing.{failure_of, CausedSince, IsReady, GoesOn, Moves, IsSubject}

-- ---- where no end has come, a machine stands at its state

from_first : (end : Option Outcome) (mode : Mode) (o : Trial) (first : Voted) → end ≡ None → state_from end mode o first 0 ≡ first
from_first None mode o first is = refl
from_first (Some e) mode o first is = absurd (cc)

-- no step after so many
after-none : (made : ℕ) → steps_after made 0 ≡ made
after-none zero = refl
after-none (suc made) = omega arith

ends_first : (end : Option Outcome) (o : Trial) (first : Voted) (mode : Mode) (steps : ℕ) → end ≡ None → steps ≡ first.steps + 0
    → EndsFrom end o first 0 mode steps
ends_first None o first mode steps is at = omega (arith, at, after-none first.steps)
ends_first (Some e) o first mode steps is at = absurd (cc)

steps_made : (end : Option Outcome) (o : Trial) (begin : Voted) (t : ℕ) (mode : Mode) (steps : ℕ) → end ≡ None → EndsFrom end o begin t mode steps
    → steps ≡ steps_after begin.steps t
steps_made None o begin t mode steps is at = at
steps_made (Some e) o begin t mode steps is at = absurd (cc)

module _ (o : Trial) (begin : Voted) (t more : ℕ) (m after : View) (ds later : List device.Device) (going : m.end ≡ None) (s : StandsFrom o begin t m ds)
    (resumes : (o : Trial) (first : Voted) (n : ℕ) → StandsFrom o first n m ds → StandsFrom o first (n + more) after later) where
  abbrev first : Voted
  first = state_from m.end m.mode o begin t

  at_first : StandsFrom o first 0 m ds
  at_first = record {
    shows = subst (λ (v : Voted). Shows o m ds v) (sym (from_first m.end m.mode o first going)) s.shows;
    begun = s.begun;
    ends = let at = s.shows.steps in ends_first m.end o first m.mode m.steps going (omega (arith, at));
  }

  -- a device that then fails fails in a later step
  pub fails_later : (step port : ℕ) → after.end ≡ Some (Device step port) → steps_after begin.steps t ≤ step
  fails_later step port is =
      let there = resumes o first 0 at_first in
      let ends = subst (λ (e : Option Outcome). EndsFrom e o first (0 + more) after.mode after.steps) is there.ends in
      let steps = steps_made m.end o begin t m.mode m.steps going s.ends in
      let later = ends.later in
      let at = s.shows.steps in
      omega (arith, later, at, steps)

-- ---- the run up to a time

-- a run in which no device fails before this time
unfailed : (o : Trial) (from : ℕ) (end : Option Outcome) → ((step port : ℕ) → end ≡ Some (Device step port) → 3 * from ≤ step)
    → (times : ℕ) → times ≤ from → state_after (failure_of end) o times ≡ guarded o (3 * times)
unfailed o from None later times h = refl
unfailed o from (Some Done) later times h = refl
unfailed o from (Some (Stopped step stop)) later times h = refl
unfailed o from (Some (Inadmissible verdict)) later times h = refl
unfailed o from (Some (Device step port)) later times h =
    let l = later step port refl in
    let early : nat_lt step (3 * times) ≡ false = grind (arith, nat_tests) in
    rw early refl

-- where the machine then stands, and that the run so far is the same
pub goes_on : (o : Trial) (from times : ℕ) (m after : View) (ds later : List device.Device) → Stands o (3 * from) m ds
    → Stands o (3 * from + 3 * times) after later
    → ((o : Trial) (first : Voted) (n : ℕ) → StandsFrom o first n m ds → StandsFrom o first (n + 3 * times) after later)
    → (IsSome m.end → after ≡ m)
    → GoesOn o from (from + times) m after later
goes_on o from times m after ds later s stands resumes kept = record {
  stands = let e : 3 * from + 3 * times ≡ 3 * (from + times) = omega arith in subst (λ (t : ℕ). Stands o t after later) e stands;
  same = by m.end refl;
}
  where
    by : (end : Option Outcome) → m.end ≡ end → (k : ℕ) → k ≤ from → state_after (failure_of after.end) o k ≡ state_after (failure_of m.end) o k
    by None is k h =
        unfailed o from after.end (fails_later o (voted_start o) (3 * from) (3 * times) m after ds later is s resumes) k h
        ∙ sym (ap (λ (e : Option Outcome). state_after (failure_of e) o k) is)
    by (Some e) is k h = ap (λ (v : View). state_after (failure_of v.end) o k) (kept (rw is refl))

-- one going after the other
goes_then : (o : Trial) (a b d : ℕ) (first m after : View) (ds later : List device.Device) → a ≤ b → GoesOn o a b first m ds → GoesOn o b d m after later
    → GoesOn o a d first after later
goes_then o a b d first m after ds later forward p q = record {
  stands = q.stands;
  same = λ k h. q.same k (omega (arith, h, forward)) ∙ p.same k h;
}

pub moves_then : {B : Type 0} (device_of : B → device.Device) (faults : B → ℕ) (a b d : ℕ) (first m after : View) (xs ys zs : List B)
    → Moves device_of faults a b first m xs ys → Moves device_of faults b d m after ys zs → Moves device_of faults a d first after xs zs
moves_then device_of faults a b d first m after xs ys zs p q = record {
  forward = let f = p.forward in let l = q.forward in omega (arith, f, l);
  goes = λ o s. let before = p.goes o s in goes_then o a b d first m after _ _ p.forward before (q.goes o before.stands);
  cause = λ counts h. q.cause counts (p.cause counts h);
}

-- where nothing was made
pub moves_not : {B : Type 0} (device_of : B → device.Device) (faults : B → ℕ) (a : ℕ) (m : View) (xs : List B) → Moves device_of faults a a m m xs xs
moves_not device_of faults a m xs = record {
  forward = omega arith;
  goes = λ o s. record { stands = s; same = λ k h. refl };
  cause = λ counts h. h;
}

-- what the machine has run is what it had run before
pub subject_before : (o : Trial) (a b : ℕ) (m after : View) (ds : List device.Device) (s : Subject) → a ≤ b → after.limit ≡ m.limit → GoesOn o a b m after ds
    → IsSubject o after b s → IsSubject o m a s
subject_before o a b m after ds s forward limit goes is = record {
  trial = is.trial;
  limit = is.limit ∙ limit;
  state = λ k h. is.state k (omega (arith, h, forward)) ∙ goes.same k h;
}

-- ---- causes

module _ {B : Type 0} (device_of : B → device.Device) (faults : B → ℕ) (first : ℕ → ℕ) (old new : List B)
    (left : (port : ℕ) → has_port device_of port new ≡ true → has_port device_of port old ≡ true)
    (quiet : (port : ℕ) → has_port device_of port old ≡ true → count_at device_of faults port old ≡ first port) where
  caused_on : (end : Outcome)
      → Caused end (λ port. count_at device_of faults port old) (λ port. count_at device_of faults port new) (λ port. has_port device_of port new)
      → Caused end first (λ port. count_at device_of faults port new) (λ port. has_port device_of port new)
  caused_on Done c = λ port l. c port l ∙ quiet port (left port l)
  caused_on (Stopped step stop) c = λ port l. c port l ∙ quiet port (left port l)
  caused_on (Inadmissible verdict) c = λ port l. c port l ∙ quiet port (left port l)
  caused_on (Device step port) c =
      let there = rose-has device_of faults port (count_at device_of faults port old) new c.rose in
      record {
        rose = subst (λ (k : ℕ). Rose k (count_at device_of faults port new)) (quiet port (left port there)) c.rose;
        others = λ other apart l. c.others other apart l ∙ quiet other (left other l);
      }

-- an end that comes now has its cause since the first
pub cause_on : {B : Type 0} (device_of : B → device.Device) (faults : B → ℕ) (first : ℕ → ℕ) (before after : Option Outcome) (old new : List B)
    → ((port : ℕ) → has_port device_of port new ≡ true → has_port device_of port old ≡ true)
    → (IsSome before → (after ≡ before) × (new ≡ old))
    → (IsNone before → Caused (answer_of_end after) (λ port. count_at device_of faults port old) (λ port. count_at device_of faults port new) (λ port. has_port device_of port new))
    → CausedSince device_of faults first before old → CausedSince device_of faults first after new
cause_on device_of faults first None after old new left kept cause h = caused_on device_of faults first old new left h (answer_of_end after) (cause refl)
cause_on {B} device_of faults first (Some e) after old new left kept cause h =
    let same = kept refl in
    subst (λ (x : Option Outcome). CausedSince device_of faults first x new) (sym same.0)
    (subst (λ (ds : List B). CausedSince device_of faults first (Some e) ds) (sym same.1) h)

-- ---- times that are made

-- so many times more than were asked for are left
pub run_left : (asked times limit steps : ℕ) → asked ≤ limit → steps ≤ 3 * asked → asked + times ≤ limit → steps + 3 * times ≤ 3 * limit
run_left asked times limit steps few made within = omega (arith, made, within)

-- a run of so many times more than were asked for moves the machine on, and leaves it ready
module _ {B : Type 0} (device_of : B → device.Device) (spare faults : B → ℕ) (asked times : ℕ) (before after : View) (old new : List B) (end : Outcome)
    (ready : IsReady device_of spare asked before.limit before old) (within : asked + times ≤ before.limit)
    (stands : (o : Trial) (first : Voted) (n : ℕ) → StandsFrom o first n before (map device_of old) → StandsFrom o first (n + 3 * times) after (map device_of new))
    (answers : Answers device_of faults end before after old new) (leaves : LeavesAfterSteps device_of spare (3 * times) before after old new) where
  pub run_moves : Moves device_of faults asked (asked + times) before after old new
  run_moves = record {
    forward = omega arith;
    goes = λ o s. goes_on o asked times before after _ _ s (stands o (voted_start o) (3 * asked) s) stands (λ some. (answers.kept some).0);
    cause = λ first h.
        cause_on device_of faults first before.end after.end old new leaves.left
        (λ some. let kept = answers.kept some in (ap (λ (v : View). v.end) kept.0, kept.1))
        (λ none. rw answers.answer at (answers.cause none)) h;
  }

  pub run_ready : IsReady device_of spare (asked + times) before.limit after new
  run_ready = record {
    mode = leaves.keeps.mode ∙ ready.mode;
    limit_is = leaves.keeps.limit;
    few = within;
    made = let made = ready.made in let more = leaves.most in omega (arith, made, more);
    fit = leaves.fit;
  }

-- a fact of every error
pub on_err : {A E P : Type 0} (result : Result A E) → P → OnErr result P
on_err (Ok a) fact = tt
on_err (Err e) fact = fact
