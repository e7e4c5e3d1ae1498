-- Work of any kind counts down by one a phase, and lands where one phase is left.
use Rattle.std.proofs.Common.{◌≡◌, ℕ, zero, suc, ◌-◌, ◌<◌, ◌==◌, ◌≢◌, Bool, true, false, not, refl, ap, sym, ◌∙◌, arith, cond, subst}
use Rattle.std.proofs.lemmas.Bool.{cond-true, cond-false, cond_both, ne_eqb, eq-eqb, eqb-true, eqb-false, both_ways, and_right, and_from}
use Rattle.std.specs.declared.option.Option.TheVariants.{None, Some}
use Rattle.lvdc_mul.specs.declared.control.Kind.{Kind}
use Rattle.lvdc_mul.specs.declared.control.Kind.TheVariants.{Idle, Multiply, MultiplyHigh, Divide}
use Rattle.lvdc_mul.specs.declared.control.Control.{Control}
use Rattle.lvdc_mul.specs.Latches.{Latches}
use Rattle.lvdc_mul.specs.Control.{control_of, control_word, counted_down, is_idle, is_last}
use Rattle.lvdc_mul.specs.Unit.{kind, count, phase_of, phase_by, multiply_phase, sign_phase, bit_phase, signs_noted, after_phases, lands_of, result_of}
use Rattle.lvdc_mul.specs.Landing.{LandsOnlyIn, LandsNever}
use Rattle.lvdc_mul.proofs.ControlLaws.{control_of-control_word}

-- a phase that is left is made
pub made : (u : Latches) (k : Kind) → kind u ≡ k → 0 < count u → phase_of u ≡ phase_by k u
made u k e some =
    cond-false (count u == 0) u (phase_by (kind u) u) (ne_eqb _ _ (omega (arith, some))) ∙ ap (λ (x : Kind). phase_by x u) e

-- the word of a count that is one less
pub counted : (w : ℕ) → control_of (control_word (counted_down (control_of w))) ≡ counted_down (control_of w)
counted w = control_of-control_word (counted_down (control_of w)) (omega arith)

pub noted : (u : Latches) → control_of (control_word (signs_noted u)) ≡ signs_noted u
noted u = control_of-control_word (signs_noted u) (omega arith)

-- the kind stays, and one phase fewer is left
pub record IsNext (u v : Latches) : Type 0 where
  pub kind : kind v ≡ kind u
  pub count : count v ≡ count u - 1

is_next : (u v : Latches) (c : Control) → control_of v.control ≡ c → c.kind ≡ kind u → c.count ≡ count u - 1 → IsNext u v
is_next u v c e k n = record { kind = ap (λ (x : Control). x.kind) e ∙ k; count = ap (λ (x : Control). x.count) e ∙ n }

next_by : (k : Kind) (u : Latches) → is_idle k ≡ false → IsNext u (phase_by k u)
next_by Idle u e = absurd (both_ways true e refl)
next_by Multiply u e = is_next u (multiply_phase u) _ (counted u.control) refl refl
next_by MultiplyHigh u e = is_next u (multiply_phase u) _ (counted u.control) refl refl
next_by Divide u e =
    cond_both (count u == 24) (sign_phase u) (bit_phase u) (IsNext u)
    (λ _. is_next u (sign_phase u) _ (noted u) refl refl)
    (λ _. is_next u (bit_phase u) _ (counted u.control) refl refl)

pub next : (u : Latches) → is_idle (kind u) ≡ false → 0 < count u → IsNext u (phase_of u)
next u busy some = subst (IsNext u) (sym (made u (kind u) refl some)) (next_by (kind u) u busy)

-- where no phase is left all stays
rests : (u : Latches) → count u ≡ 0 → phase_of u ≡ u
rests u none = ap (λ (b : Bool). cond b u (phase_by (kind u) u)) (eq-eqb _ _ none)

-- after so many phases
pub record IsAfter (n : ℕ) (u v : Latches) : Type 0 where
  pub kind : kind v ≡ kind u
  pub count : count v ≡ count u - n

after_next : (n : ℕ) (u v : Latches) (none : Bool) → (count v == 0) ≡ none → is_idle (kind u) ≡ false → IsAfter n u v → IsAfter (suc n) u (phase_of v)
after_next n u v true none busy a =
    let zero_left : count v ≡ 0 = eqb-true _ _ none in
    subst (IsAfter (suc n) u) (sym (rests v zero_left)) (record { kind = a.kind; count = let e = a.count in omega (arith, zero_left, e) })
after_next n u v false none busy a =
    let left : count v ≢ 0 = eqb-false _ _ none in
    let step : IsNext v (phase_of v) = next v (ap is_idle a.kind ∙ busy) (omega (arith, left)) in
    record { kind = step.kind ∙ a.kind; count = let e = a.count in let f = step.count in omega (arith, e, f) }

pub afterwards : (n : ℕ) (u : Latches) → is_idle (kind u) ≡ false → IsAfter n u (after_phases n u)
afterwards zero u busy = record { kind = refl; count = omega arith }
afterwards (suc n) u busy = after_next n u (after_phases n u) _ refl busy (afterwards n u busy)

-- ---- landing

lands_not : (u : Latches) → count u ≢ 1 → lands_of u ≡ None
lands_not u more = cond-false (is_last (control_of u.control)) _ _ (and_right _ _ (ne_eqb _ _ more))

lands_now : (u : Latches) → is_idle (kind u) ≡ false → count u ≡ 1 → lands_of u ≡ Some (result_of (phase_of u))
lands_now u busy one = cond-true (is_last (control_of u.control)) _ _ (and_from _ _ (ap not busy) (eq-eqb _ _ one))

-- work of so many phases lands what stands after the last of them, and nothing else
pub lands-only : (last result : ℕ) (u : Latches) → is_idle (kind u) ≡ false → count u ≡ last
    → ((n : ℕ) → suc n ≡ last → result_of (after_phases (suc n) u) ≡ result) → LandsOnlyIn last result u
lands-only last result u busy all right =
    record {
      before = λ n early. let e = (afterwards n u busy).count in lands_not (after_phases n u) (omega (arith, e, all, early));
      then = λ n now. let a = afterwards n u busy in
          lands_now (after_phases n u) (ap is_idle a.kind ∙ busy) (let e = a.count in omega (arith, e, all, now)) ∙ ap Some (right n now);
      after = λ n late. let e = (afterwards n u busy).count in lands_not (after_phases n u) (omega (arith, e, all, late));
    }

-- where CONTROL is 0 it stays so, and nothing lands
stays : (n : ℕ) (u : Latches) → u.control ≡ 0 → (after_phases n u).control ≡ 0
stays zero u e = e
stays (suc n) u e =
    let so : (after_phases n u).control ≡ 0 = stays n u e in
    ap (λ (v : Latches). v.control) (rests (after_phases n u) (omega (arith, so))) ∙ so

pub lands-never : (u : Latches) → u.control ≡ 0 → LandsNever u
lands-never u e = record { never = λ n. lands_not (after_phases n u) (let so = stays n u e in omega (arith, so)) }
