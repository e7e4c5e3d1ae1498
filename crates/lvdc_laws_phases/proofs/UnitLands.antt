-- What a phase of the unit leaves of what is pending: in the first two phases of a time it goes on, in the last one it may
-- land.
use Rattle.std.proofs.Common.{◌≡◌, ℕ, suc, ◌+◌, ◌-◌, if◌then◌else◌, ◌*◌, ◌^◌, ◌<◌, ◌==◌, ◌≢◌, Bool, true, false, refl, ap, sym, ◌∙◌, arith}
use Rattle.std.proofs.lemmas.Bool.{eqb-true, eqb-false}
use Rattle.std.specs.declared.option.Option.{Option}
use Rattle.std.specs.declared.option.Option.TheVariants.{None, Some}
use Rattle.lvdc_mul.specs.declared.control.Kind.{Kind}
use Rattle.lvdc_mul.specs.declared.control.Kind.TheVariants as kinds
use Rattle.lvdc_word.specs.Results.{product, quotient}
use Rattle.lvdc_mul.specs.Unit.{kind, multiply_kind, issued_multiply, issued_divide, phase_of, after_phases, lands_of}
use Rattle.lvdc_mul.specs.Landing.{LandsOnlyIn}
use Rattle.lvdc_plain.specs.declared.records.Pending.{Pending}
use Rattle.lvdc_plain.specs.Table.{landed_pq, landed_a, later}
use Rattle.lvdc_modules.specs.declared.bus.Bus.{Bus}
use Rattle.lvdc_modules.specs.Accumulator.{a_landed}
use Rattle.lvdc_modules.specs.Multiplier.{working, landing, unit_pq, unit_working, pq_landed, worked}
use Rattle.lvdc_laws_phases.specs.Work.{Issue, Multiply, MultiplyHigh, Divide, issued, phases_of, answer_of, is_high, kind_of, IsWorkOn, IsWork, UnitIsRight}

-- the laws of multiply and divide are those of each issue
pub right : ((a m : ℕ) (high : Bool) → a < 2 ^ 26 → m < 2 ^ 26 → LandsOnlyIn 12 (product a m) (issued_multiply a m high))
    → ((a m : ℕ) (high : Bool) (n : ℕ) → kind (after_phases n (issued_multiply a m high)) ≡ multiply_kind high)
    → ((a m : ℕ) → a < 2 ^ 26 → m < 2 ^ 26 → LandsOnlyIn 24 (quotient a m) (issued_divide a m))
    → ((a m n : ℕ) → kind (after_phases n (issued_divide a m)) ≡ kinds.Divide) → UnitIsRight
right multiply multiply_stays divide divide_stays = record { lands = each_lands; kind_stays = each_stays }
  where
    each_lands : (k : Issue) (a m : ℕ) → a < 2 ^ 26 → m < 2 ^ 26 → LandsOnlyIn (phases_of k) (answer_of k a m) (issued k a m)
    each_lands Multiply a m = multiply a m false
    each_lands MultiplyHigh a m = multiply a m true
    each_lands Divide a m = divide a m

    each_stays : (k : Issue) (a m n : ℕ) → kind (after_phases n (issued k a m)) ≡ kind_of k
    each_stays Multiply a m n = multiply_stays a m false n
    each_stays MultiplyHigh a m n = multiply_stays a m true n
    each_stays Divide a m n = divide_stays a m n

-- work that has a phase left beside the next one lands nothing
not_yet : UnitIsRight → (r : Pending) (t : ℕ) (b : Bus) → (w : IsWorkOn r t (working b)) → suc w.made < phases_of w.issue → landing b ≡ None
not_yet right r t b w more =
    ap lands_of w.latches ∙ (right.lands w.issue w.a w.m w.a_word w.m_word).before w.made more

-- it goes on by a phase
goes_on_by : (r : Pending) (t : ℕ) (b : Bus) (q : Pending) (s : ℕ) → (w : IsWorkOn r t (working b)) → landing b ≡ None
    → q.result ≡ r.result → q.to_a ≡ r.to_a → 0 < q.left → 3 * q.left + t + 1 ≡ 3 * r.left + s → IsWorkOn q s (unit_working b)
goes_on_by r t b q s w nothing result to_a some left =
    record {
      issue = w.issue;
      a = w.a;
      m = w.m;
      made = suc w.made;
      result = result ∙ w.result;
      to_a = to_a ∙ w.to_a;
      latches = ap (λ (l : Option ℕ). worked l (working b)) nothing ∙ ap phase_of w.latches;
      left = omega (arith, w.left, left);
      some = some;
      a_word = w.a_word;
      m_word = w.m_word;
    }

-- the latches after one of the first two phases of a time, in which nothing lands
pub goes_on : UnitIsRight → (r : Option Pending) (t : ℕ) (b : Bus) → t < 2 → IsWork r t (working b)
    → (landing b ≡ None) × IsWork r (suc t) (unit_working b)
goes_on right None t b small e = (rw e, rw e)
goes_on right (Some r) t b small w =
    let nothing : landing b ≡ None = not_yet right r t b w (omega (arith, w.left, w.some)) in
    (nothing, goes_on_by r t b r (suc t) w nothing refl refl w.some (omega arith))

-- what the last phase of a time leaves
pub record Lands (r : Option Pending) (b : Bus) : Type 0 where
  pub pq : unit_pq b ≡ landed_pq r b.multiplier.pq
  pub a : (a : ℕ) → a_landed (kind (working b)) (landing b) a ≡ landed_a r a
  pub work : IsWork (later r) 0 (unit_working b)

-- a product lands in A where it is that of an MPH
a_lands : (k : Issue) (result a : ℕ) → a_landed (kind_of k) (Some result) a ≡ (if is_high k then result else a)
a_lands Multiply result a = refl
a_lands MultiplyHigh result a = refl
a_lands Divide result a = refl

pub a_stays : (k : Kind) (a : ℕ) → a_landed k None a ≡ a
a_stays kinds.Idle a = refl
a_stays kinds.Multiply a = refl
a_stays kinds.MultiplyHigh a = refl
a_stays kinds.Divide a = refl

-- where nothing is pending the unit is idle
lands_none : (b : Bus) → (working b).control ≡ 0 → Lands None b
lands_none b e = record { pq = rw e; a = λ a. rw e; work = rw e }

-- where one time is left the unit lands the result in phase C
lands_one : UnitIsRight → (r : Pending) (b : Bus) → IsWorkOn r 2 (working b) → (r.left == 1) ≡ true → Lands (Some r) b
lands_one right r b w one =
    let is_one : r.left ≡ 1 = eqb-true _ _ one in
    let result : landing b ≡ Some r.result =
    ap lands_of w.latches
    ∙ (right.lands w.issue w.a w.m w.a_word w.m_word).then w.made (omega (arith, w.left, is_one))
    ∙ ap Some (sym w.result) in
    let k : kind (working b) ≡ kind_of w.issue = ap kind w.latches ∙ right.kind_stays w.issue w.a w.m w.made in
    record {
      pq = rw one (ap (λ (l : Option ℕ). pq_landed l b.multiplier.pq) result);
      a = λ a. rw one ((λ i. a_landed (k i) (result i) a) ∙ a_lands w.issue r.result a ∙ ap (λ (high : Bool). if high then r.result else a) (sym w.to_a));
      work = rw one (ap (λ (l : Option ℕ). (worked l (working b)).control) result);
    }

-- where more are left it works on
lands_more : UnitIsRight → (r : Pending) (b : Bus) → IsWorkOn r 2 (working b) → (r.left == 1) ≡ false → Lands (Some r) b
lands_more right r b w more =
    let not_one : r.left ≢ 1 = eqb-false _ _ more in
    let nothing : landing b ≡ None = not_yet right r 2 b w (omega (arith, w.left, w.some, not_one)) in
    record {
      pq = rw more (ap (λ (l : Option ℕ). pq_landed l b.multiplier.pq) nothing);
      a = λ a. rw more (ap (λ (l : Option ℕ). a_landed (kind (working b)) l a) nothing ∙ a_stays (kind (working b)) a);
      work = rw more (goes_on_by r 2 b (record r { left = r.left - 1 }) 0 w nothing refl refl (omega (arith, w.some, not_one)) (omega (arith, w.some)));
    }

-- both, by whether one time is left
lands_by : UnitIsRight → (r : Pending) (b : Bus) → IsWorkOn r 2 (working b) → (last : Bool) → (r.left == 1) ≡ last → Lands (Some r) b
lands_by right r b w true e = lands_one right r b w e
lands_by right r b w false e = lands_more right r b w e

-- what the unit does in phase C is what becomes of the pending result
pub lands : UnitIsRight → (r : Option Pending) (b : Bus) → IsWork r 2 (working b) → Lands r b
lands right None b w = lands_none b w
lands right (Some r) b w = lands_by right r b w (r.left == 1) refl
