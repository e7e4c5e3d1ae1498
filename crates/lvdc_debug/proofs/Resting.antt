-- How far GO goes.
use Rattle.std.proofs.Common.{◌≡◌, ℕ, zero, suc, ◌+◌, ◌*◌, ◌<◌, ◌≤◌, Bool, true, false, ◌&&◌, List, refl, sym, ap, ◌∙◌, arith}
use Rattle.std.specs.Prelude.{nat_lt, nat_le, if◌then◌else◌}
use Rattle.std.proofs.lemmas.Bool.Decides.{nat_tests}
use Rattle.lvdc_port.specs.Device as device
use Rattle.lvdc_model.specs.Trial.{Trial}
use Rattle.lvdc_machine.specs.View.{View}
use Rattle.lvdc_model.specs.Runs.{guarded, alone}
use Rattle.lvdc_machine.specs.Stands.{Stands, state_by}
use Rattle.lvdc_machine.specs.declared.mode.Mode.TheVariants.{Guarded}
use Rattle.lvdc_debug.specs.declared.command.Command.TheVariants.{Go}
use Rattle.lvdc_debug.specs.declared.command.Spot2.{Spot2}
use Rattle.lvdc_debug.specs.declared.course.Course.{Course}
use Rattle.lvdc_debug.specs.Session.{Subject, state_after, first_after, rests, rests_after, left, after_command, does_all}
use Rattle.lvdc_debug.specs.Standing.{failure_of, GoesOn, IsSubject}
use Rattle.lvdc_debug.proofs.Showing.{state_shown}

-- ---- the first number that is so

pub first_at : (so : ℕ → Bool) (number more stop : ℕ) → number < stop → stop ≤ number + more → so stop ≡ true
    → ((k : ℕ) → number < k → k < stop → so k ≡ false) → first_after so number more ≡ stop
first_at so number zero stop later early so_there none = absurd (omega (arith, later, early))
first_at so number (suc more) stop later early so_there none =
    by (nat_lt (number + 1) stop) refl (first_at so (number + 1) more stop)
  where
    by : (before : Bool) → nat_lt (number + 1) stop ≡ before
        → (number + 1 < stop → stop ≤ number + 1 + more → so stop ≡ true → ((k : ℕ) → number + 1 < k → k < stop → so k ≡ false)
        → first_after so (number + 1) more ≡ stop)
        → (if so (number + 1) then number + 1 else first_after so (number + 1) more) ≡ stop
    by true is rest =
        let l : number + 1 < stop = grind (arith, nat_tests) in
        let no = none (number + 1) (omega arith) l in
        rw no (rest l (omega (arith, early)) so_there (λ k h e. none k (omega (arith, h)) e))
    by false is rest =
        let e : number + 1 ≡ stop = grind (arith, nat_tests, later) in
        let here : so (number + 1) ≡ true = ap so e ∙ so_there in
        rw here e

pub first_none : (so : ℕ → Bool) (number more : ℕ) → ((k : ℕ) → number < k → k ≤ number + more → so k ≡ false)
    → first_after so number more ≡ number + more
first_none so number zero none = omega arith
first_none so number (suc more) none =
    let no = none (number + 1) (omega arith) (omega arith) in
    let rest = first_none so (number + 1) more (λ k h e. none k (omega (arith, h)) (omega (arith, e))) in
    rw no (omega (arith, rest))

-- ---- one time more

-- what is told of a machine that stands is so of the run
pub rested : (o : Trial) (asked : ℕ) (m : View) (ds : List device.Device) (breaks old : List Spot2) (told : Bool) → ((k : ℕ) → alone o k ≡ guarded o k)
    → m.mode ≡ Guarded → Stands o (3 * asked) m ds → breaks ≡ old → told ≡ rests o breaks (state_by m.end m.mode o (3 * asked))
    → rests o old (state_after (failure_of m.end) o asked) ≡ told
rested o asked m ds breaks old told same mode stands is t =
    let v = state_shown o asked m ds same mode stands in
    (λ i. rests o (sym is i) (sym v i)) ∙ sym t

-- where the run rested at none of the times so far, and doesn't now
pub still_going : (o : Trial) (breaks : List Spot2) (from asked : ℕ) (before after : View) (ds : List device.Device)
    → ((k : ℕ) → from < k → k ≤ asked → rests o breaks (state_after (failure_of before.end) o k) ≡ false)
    → GoesOn o asked (asked + 1) before after ds → rests o breaks (state_after (failure_of after.end) o (asked + 1)) ≡ false
    → (k : ℕ) → from < k → k ≤ asked + 1 → rests o breaks (state_after (failure_of after.end) o k) ≡ false
still_going o breaks from asked before after ds none goes here k later early = by (nat_le k asked) refl
  where
    by : (old : Bool) → nat_le k asked ≡ old → rests o breaks (state_after (failure_of after.end) o k) ≡ false
    by true is = let h : k ≤ asked = grind (arith, nat_tests) in ap (rests o breaks) (goes.same k h) ∙ none k later h
    by false is =
        let e : k ≡ asked + 1 = grind (arith, nat_tests, early) in
        ap (λ (n : ℕ). rests o breaks (state_after (failure_of after.end) o n)) e ∙ here

-- the same at the time at which it rests
pub going_before : (o : Trial) (breaks : List Spot2) (from asked : ℕ) (before after : View) (ds : List device.Device)
    → ((k : ℕ) → from < k → k ≤ asked → rests o breaks (state_after (failure_of before.end) o k) ≡ false)
    → GoesOn o asked (asked + 1) before after ds
    → (k : ℕ) → from < k → k < asked + 1 → rests o breaks (state_after (failure_of after.end) o k) ≡ false
going_before o breaks from asked before after ds none goes k later early =
    let h : k ≤ asked = omega (arith, early) in ap (rests o breaks) (goes.same k h) ∙ none k later h

-- ---- the whole

module _ (o : Trial) (s : Subject) (c d : Course) (m : View) (is : IsSubject o m d.asked s) (few : d.asked ≤ m.limit) (forward : c.asked ≤ d.asked)
    (same : d.breaks ≡ c.breaks) where
  seen : (k : ℕ) → k ≤ d.asked → rests_after s c.breaks k ≡ rests o c.breaks (state_after (failure_of m.end) o k)
  seen k h = let t = is.trial in let v = is.state k h in λ i. rests (t i) c.breaks (v i)

  -- it rests
  pub went_to_rest : c.asked < d.asked → rests o c.breaks (state_after (failure_of m.end) o d.asked) ≡ true
      → ((k : ℕ) → c.asked < k → k < d.asked → rests o c.breaks (state_after (failure_of m.end) o k) ≡ false)
      → (d ≡ after_command s c Go) × (true ≡ does_all s c Go)
  went_to_rest later so_there none =
      let lim = is.limit in
      let here : rests_after s c.breaks d.asked ≡ true = seen d.asked (omega arith) ∙ so_there in
      let at : first_after (rests_after s c.breaks) c.asked (left s c.asked) ≡ d.asked =
      first_at (rests_after s c.breaks) c.asked (left s c.asked) d.asked later (omega (arith, lim, few, later)) here
      (λ k h e. seen k (omega (arith, e)) ∙ none k h e) in
      let late : nat_lt c.asked d.asked ≡ true = grind (arith, nat_tests, later) in
      (λ i. record { asked = sym at i; breaks = same i }, rw (at, late, here) refl)

  -- the limit is reached
  pub went_to_limit : m.limit ≤ d.asked
      → ((k : ℕ) → c.asked < k → k ≤ d.asked → rests o c.breaks (state_after (failure_of m.end) o k) ≡ false)
      → (d ≡ after_command s c Go) × (false ≡ does_all s c Go)
  went_to_limit full none =
      let lim = is.limit in
      let last : first_after (rests_after s c.breaks) c.asked (left s c.asked) ≡ c.asked + left s c.asked =
      first_none (rests_after s c.breaks) c.asked (left s c.asked)
      (λ k h e. seen k (omega (arith, e, lim, few, full, forward)) ∙ none k h (omega (arith, e, lim, few, full, forward))) in
      let at : first_after (rests_after s c.breaks) c.asked (left s c.asked) ≡ d.asked = omega (arith, last, lim, few, full, forward) in
      (λ i. record { asked = sym at i; breaks = same i }, rw at (sym (by (nat_lt c.asked d.asked) refl)))
    where
      by : (later : Bool) → nat_lt c.asked d.asked ≡ later → (nat_lt c.asked d.asked && rests_after s c.breaks d.asked) ≡ false
      by true e =
          let l : c.asked < d.asked = grind (arith, nat_tests) in
          let no : rests_after s c.breaks d.asked ≡ false = seen d.asked (omega arith) ∙ none d.asked l (omega arith) in
          rw (e, no) refl
      by false e = rw e refl
