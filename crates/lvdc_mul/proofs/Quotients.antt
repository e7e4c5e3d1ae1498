-- Twenty-four phases of a divide leave the quotient.
use Rattle.std.proofs.Common.{◌≡◌, ℕ, zero, suc, ◌+◌, ◌-◌, ◌*◌, ◌/◌, ◌%◌, ◌^◌, ◌<◌, ◌≤◌, ◌==◌, ◌≢◌, Bool, true, false, not, refl, ap, sym, ◌∙◌, arith, cond, subst}
use Rattle.std.specs.Prelude.{ℤ, pos, negsuc, ◌*ℤ◌, neg_ℤ, unsigned_abs, nat_le, nat_lt}
use Rattle.std.specs.Int.{is_negative}
use Rattle.std.proofs.lemmas.Bool.{ne_eqb, eq-eqb, leb-true, leb-false, ltb-true, cond-true, cond-false}
use Rattle.std.proofs.lemmas.Int.{ints}
use Rattle.std.proofs.lemmas.Nat.{div-mul-add}
use Rattle.std.proofs.Math.Nat.{pow-succ', pow-le-pow_right}
use Rattle.lvdc_word.specs.Word.{signed, word_of, shifted_left}
use Rattle.lvdc_word.specs.Results.{fraction, quotient, quotient_of, with_sign}
use Rattle.lvdc_mul.specs.declared.control.Kind.{Kind}
use Rattle.lvdc_mul.specs.declared.control.Kind.TheVariants.{Divide}
use Rattle.lvdc_mul.specs.declared.control.Control.{Control}
use Rattle.lvdc_mul.specs.Latches.{Latches}
use Rattle.lvdc_mul.specs.Control.{control_of}
use Rattle.lvdc_mul.specs.Unit.{kind, count, issued_divide, sign_phase, bit_phase, twice, phase_of, after_phases, result_of, result_by, divide_result}
use Rattle.lvdc_mul.specs.Landing.{LandsOnlyIn}
use Rattle.lvdc_mul.proofs.Words.{IsPart, fraction_part, part_word}
use Rattle.lvdc_mul.proofs.Phases.{made, counted, noted, afterwards, lands-only}

-- ---- a bit of the quotient

-- the bits found, W being 2 to their number, and the remainder
record IsFound (W h0 m h q : ℕ) : Type 0 where
  split : q * m + h ≡ h0 * W
  below : h < m
  bits : q < W

found_by : (goes : Bool) (u : Latches) (W h0 m : ℕ) → nat_le u.m (twice u) ≡ goes → u.m ≡ m → m ≤ 8388608 → W ≤ 4194304 → IsFound W h0 m u.h u.q
    → IsFound (2 * W) h0 m (bit_phase u).h (bit_phase u).q
found_by true u W h0 m e em small few f =
    let double : twice u ≡ 2 * u.h = omega (arith, f.below, small) in
    let le : u.m ≤ twice u = leb-true _ _ e in
    let q_is : (2 * u.q + 1) % 2 ^ 26 ≡ 2 * u.q + 1 = omega (arith, f.bits, few) in
    let h_is : twice u - u.m ≡ 2 * u.h - m = omega (arith, double, em) in
    rw (e, q_is, h_is) (record {
      split = omega (arith, f.split, le, double, em, f.below);
      below = omega (arith, f.below, le, double, em);
      bits = omega (arith, f.bits);
    })
found_by false u W h0 m e em small few f =
    let double : twice u ≡ 2 * u.h = omega (arith, f.below, small) in
    let gt : twice u < u.m = leb-false _ _ e in
    let q_is : 2 * u.q % 2 ^ 26 ≡ 2 * u.q = omega (arith, f.bits, few) in
    rw (e, q_is, double) (record {
      split = omega (arith, f.split);
      below = omega (arith, gt, double, em);
      bits = omega (arith, f.bits);
    })

-- ---- a divide of a by m with k bits found

-- exactly one of the two
abbrev exactly_one : Bool → Bool → Bool
exactly_one b c = cond b (not c) c

record IsDividing (k : ℕ) (a m : ℤ) (u : Latches) : Type 0 where
  m_is : u.m ≡ unsigned_abs m
  negative : (control_of u.control).negative ≡ exactly_one (is_negative a) (is_negative m)
  saturated : (control_of u.control).saturated ≡ not (nat_lt (unsigned_abs a) (unsigned_abs m))
  found : nat_lt (unsigned_abs a) (unsigned_abs m) ≡ true → IsFound (2 ^ k) (unsigned_abs a) (unsigned_abs m) u.h u.q

part_abs : (z : ℤ) → IsPart z → unsigned_abs z ≤ 8388608
part_abs (pos n) p = let l = p.high in omega (arith, ints, l)
part_abs (negsuc n) p = let l = p.low in omega (arith, ints, l)

power_small : (k : ℕ) → k < 23 → 2 ^ k ≤ 4194304
power_small k h = pow-le-pow_right {n = 2} (omega arith) {i = k} {j = 22} (omega (arith, h))

-- the first phase notes the signs
signs : (u : Latches) → kind u ≡ Divide → count u ≡ 24 → phase_of u ≡ sign_phase u
signs u k n = made u Divide k (omega (arith, n)) ∙ cond-true (count u == 24) _ _ (eq-eqb _ _ n)

dividing_first : (a m : ℤ) (u : Latches) → signed u.h ≡ a → signed u.m ≡ m → u.q ≡ 0 → IsDividing 0 a m (sign_phase u)
dividing_first a m u h m_is q =
    record {
      m_is = ap unsigned_abs m_is;
      negative = ap (λ (c : Control). c.negative) (noted u) ∙ (λ i. exactly_one (is_negative (h i)) (is_negative (m_is i)));
      saturated = ap (λ (c : Control). c.saturated) (noted u) ∙ (λ i. not (nat_lt (unsigned_abs (h i)) (unsigned_abs (m_is i))));
      found = λ less. record {
        split = let e = ap unsigned_abs h in omega (arith, e, ap (λ (x : ℕ). x * unsigned_abs m) q);
        below = let e = ap unsigned_abs h in let lt = ltb-true _ _ less in omega (arith, e, lt);
        bits = omega (arith, q);
      };
    }

-- each later one finds a bit
bits : (u : Latches) → kind u ≡ Divide → 0 < count u → count u ≢ 24 → phase_of u ≡ bit_phase u
bits u k some later = made u Divide k some ∙ cond-false (count u == 24) _ _ (ne_eqb _ _ later)

dividing_next : (k : ℕ) (a m : ℤ) (u : Latches) → k < 23 → IsPart m → IsDividing k a m u → IsDividing (suc k) a m (bit_phase u)
dividing_next k a m u few mp d =
    record {
      m_is = d.m_is;
      negative = ap (λ (c : Control). c.negative) (counted u.control) ∙ d.negative;
      saturated = ap (λ (c : Control). c.saturated) (counted u.control) ∙ d.saturated;
      found = λ less. subst (λ (W : ℕ). IsFound W (unsigned_abs a) (unsigned_abs m) (bit_phase u).h (bit_phase u).q) (sym (pow-succ' 2 k))
          (found_by _ u (2 ^ k) (unsigned_abs a) (unsigned_abs m) refl d.m_is (part_abs m mp) (power_small k few) (d.found less));
    }

dividing : (k a m : ℕ) → k < 24 → a < 2 ^ 26 → m < 2 ^ 26 → IsDividing k (fraction a) (fraction m) (after_phases (suc k) (issued_divide a m))
dividing zero a m few a_small small =
    subst (IsDividing 0 (fraction a) (fraction m)) (sym (signs (issued_divide a m) refl refl))
    (dividing_first (fraction a) (fraction m) (issued_divide a m) (part_word (fraction a) (fraction_part a a_small)) (part_word (fraction m) (fraction_part m small)) refl)
dividing (suc k) a m few a_small small =
    let u : Latches = after_phases (suc k) (issued_divide a m) in
    let w = afterwards (suc k) (issued_divide a m) refl in
    let n : count u ≡ 24 - suc k = w.count in
    subst (IsDividing (suc k) (fraction a) (fraction m)) (sym (bits u w.kind (omega (arith, n, few)) (omega (arith, n))))
    (dividing_next k (fraction a) (fraction m) u (omega (arith, few)) (fraction_part m small) (dividing k a m (omega (arith, few)) a_small small))

-- ---- the result

signed_result : (n : Bool) (q : ℕ) → cond n (word_of (neg_ℤ (pos (4 * q)))) (shifted_left q 2) ≡ word_of (with_sign n q *ℤ pos 4)
signed_result true q = let e : neg_ℤ (pos (4 * q)) ≡ neg_ℤ (pos q) *ℤ pos 4 = omega (arith, ints) in ap word_of e
signed_result false q = refl

quotient_by : (less : Bool) (a m : ℤ) (u : Latches) → nat_lt (unsigned_abs a) (unsigned_abs m) ≡ less → IsDividing 23 a m u
    → divide_result (control_of u.control) u.q ≡ quotient_of a m (exactly_one (is_negative a) (is_negative m))
quotient_by true a m u less d =
    let s : (control_of u.control).saturated ≡ false = d.saturated ∙ ap not less in
    let f : IsFound 8388608 (unsigned_abs a) (unsigned_abs m) u.h u.q = d.found less in
    let q : u.q ≡ unsigned_abs a * 2 ^ 23 / unsigned_abs m =
    sym (div-mul-add u.q (unsigned_abs m) u.h f.below) ∙ ap (λ (x : ℕ). x / unsigned_abs m) f.split in
    rw (s, less)
    (ap (λ (n : Bool). cond n (word_of (neg_ℤ (pos (4 * u.q)))) (shifted_left u.q 2)) d.negative
    ∙ signed_result (exactly_one (is_negative a) (is_negative m)) u.q
    ∙ ap (λ (x : ℕ). word_of (with_sign (exactly_one (is_negative a) (is_negative m)) x *ℤ pos 4)) q)
quotient_by false a m u less d =
    let s : (control_of u.control).saturated ≡ true = d.saturated ∙ ap not less in
    rw (s, less) (ap (λ (n : Bool). cond n 0o200000000 0o177777774) d.negative)

-- what stands after 24 phases
quotient_after : (n a m : ℕ) → suc n ≡ 24 → a < 2 ^ 26 → m < 2 ^ 26 → result_of (after_phases (suc n) (issued_divide a m)) ≡ quotient a m
quotient_after n a m e a_small small =
    let u : Latches = after_phases (suc n) (issued_divide a m) in
    let k : kind u ≡ Divide = (afterwards (suc n) (issued_divide a m) refl).kind in
    let last : n ≡ 23 = omega (arith, e) in
    ap (λ (x : Kind). result_by x u) k
    ∙ quotient_by _ (fraction a) (fraction m) u refl
    (subst (λ (x : ℕ). IsDividing x (fraction a) (fraction m) u) last (dividing n a m (omega (arith, e)) a_small small))

pub divide-lands : (a m : ℕ) (u : Latches) → u ≡ issued_divide a m → a < 2 ^ 26 → m < 2 ^ 26 → LandsOnlyIn 24 (quotient a m) u
divide-lands a m u e a_small small =
    subst (LandsOnlyIn 24 (quotient a m)) (sym e)
    (lands-only 24 (quotient a m) (issued_divide a m) refl refl (λ n all. quotient_after n a m all a_small small))
