-- Twelve phases of a multiply leave the product.
use Rattle.std.proofs.Common.{◌≡◌, ℕ, zero, suc, ◌+◌, ◌*◌, ◌/◌, ◌%◌, ◌^◌, ◌<◌, ◌≤◌, ◌==◌, Bool, true, false, refl, ap, sym, ◌∙◌, arith, subst}
use Rattle.std.specs.Prelude.{ℤ, pos, negsuc, ◌+ℤ◌, ◌*ℤ◌, ◌≤ℤ◌}
use Rattle.std.specs.Int.{int_div_euclid}
use Rattle.std.proofs.lemmas.Bool.{ne_eqb}
use Rattle.std.proofs.lemmas.Int.{ints}
use Rattle.std.proofs.Math.Nat.{pow-succ', mul-le-mul_right}
use borrow.Author.Differences.{up, down, sum_is_lem, product_is}
use Rattle.lvdc_word.specs.Word.{signed, word_of, shifted_right}
use Rattle.lvdc_word.specs.Results.{fraction, product}
use Rattle.lvdc_mul.specs.declared.control.Kind.{Kind}
use Rattle.lvdc_mul.specs.Latches.{Latches}
use Rattle.lvdc_mul.specs.Control.{is_idle}
use Rattle.lvdc_mul.specs.Unit.{kind, count, digit, multiply_sum, multiply_phase, multiply_kind, issued_multiply, phase_of, phase_by, after_phases, result_of, result_by}
use Rattle.lvdc_mul.specs.Landing.{LandsOnlyIn}
use Rattle.lvdc_mul.proofs.Words.{IsPart, fraction_part, part_word, signed_word, four_times, floor_is, word_of_eight}
use Rattle.lvdc_mul.proofs.Phases.{made, afterwards, next, lands-only}

-- ---- one phase: v is u with a digit's multiple of M added to H, and H and Q shifted

pub record IsShifted (d : ℤ) (u v : Latches) : Type 0 where
  pub low : ℕ
  pub few : low < 4
  pub sum : (signed v.h *ℤ pos 4) +ℤ pos low ≡ signed u.h +ℤ (d *ℤ signed u.m)
  pub part : IsPart (signed v.h)
  pub q : v.q ≡ u.q / 4 + low * 4194304
  pub m : v.m ≡ u.m

-- the sum of a phase is within a word
record IsSum (z : ℤ) : Type 0 where
  low : negsuc 33554431 ≤ℤ z
  high : z ≤ℤ pos 33554428

sum_small : (last : Bool) (d : ℕ) (h m : ℤ) → d < 4 → IsPart h → IsPart m → IsSum (h +ℤ (digit last d *ℤ m))
sum_small last zero h m small hp mp = record { low = grind (arith, ints, hp.low); high = grind (arith, ints, hp.high) }
sum_small last (suc zero) h m small hp mp = record { low = grind (arith, ints, hp.low, mp.low); high = grind (arith, ints, hp.high, mp.high) }
sum_small false (suc (suc zero)) h m small hp mp = record { low = omega (arith, ints, hp.low, mp.low); high = omega (arith, ints, hp.high, mp.high) }
sum_small false (suc (suc (suc zero))) h m small hp mp = record { low = omega (arith, ints, hp.low, mp.low); high = omega (arith, ints, hp.high, mp.high) }
sum_small true (suc (suc zero)) h m small hp mp = record { low = omega (arith, ints, hp.low, mp.high); high = omega (arith, ints, hp.high, mp.low) }
sum_small true (suc (suc (suc zero))) h m small hp mp = record { low = omega (arith, ints, hp.low, mp.high); high = omega (arith, ints, hp.high, mp.low) }
sum_small last (suc (suc (suc (suc n)))) h m small hp mp = absurd (omega (arith, small))

quarter_part : (z : ℤ) → IsSum z → IsPart (int_div_euclid z (pos 4))
quarter_part (pos n) s = record { low = omega (arith, ints, s.low); high = omega (arith, ints, s.high) }
quarter_part (negsuc n) s = record { low = omega (arith, ints, s.low); high = omega (arith, ints, s.high) }

shifted_by : (last : Bool) (u : Latches) → (count u == 1) ≡ last → IsPart (signed u.h) → IsPart (signed u.m) → u.q < 2 ^ 24 → IsShifted (digit last (u.q % 4)) u (multiply_phase u)
shifted_by last u is hp mp small =
    let z : ℤ = signed u.h +ℤ (digit last (u.q % 4) *ℤ signed u.m) in
    let s : IsSum z = sum_small last (u.q % 4) (signed u.h) (signed u.m) (omega arith) hp mp in
    let high : z ≤ℤ pos 33554431 = let h = s.high in omega (arith, ints, h) in
    let w : multiply_sum u ≡ word_of z = ap (λ (b : Bool). word_of (signed u.h +ℤ (digit b (u.q % 4) *ℤ signed u.m))) is in
    let again : signed (multiply_sum u) ≡ z = ap signed w ∙ signed_word z s.low high in
    let part : IsPart (int_div_euclid z (pos 4)) = quarter_part z s in
    let h : signed (shifted_right (multiply_sum u) 2) ≡ int_div_euclid z (pos 4) =
    ap (λ (x : ℤ). signed (word_of (int_div_euclid x (pos 4)))) again ∙ part_word (int_div_euclid z (pos 4)) part in
    record {
      low = multiply_sum u % 4;
      few = omega arith;
      sum = (λ i. (h i *ℤ pos 4) +ℤ pos (w i % 4)) ∙ four_times z s.low high;
      part = subst IsPart (sym h) part;
      q = omega (arith, small);
      m = refl;
    }

-- ---- the digits of the multiplier: p those that are taken, `rest` those to come

record IsTaken (W V q0 p rest low q : ℕ) : Type 0 where
  whole : W * V ≡ 16777216
  digits : q0 ≡ rest * W + p
  taken : p < W
  kept : q ≡ rest + low * V

taken_next : (W V q0 p rest low q r : ℕ) → IsTaken W (4 * V) q0 p rest low q → r < 4
    → IsTaken (4 * W) V q0 (p + q % 4 * W) (rest / 4) (low + r * W) (q / 4 + r * 4194304)
taken_next W V q0 p rest low q r t few =
    let whole : W * V ≡ 4194304 = let e = t.whole in omega (arith, e) in
    let d : q % 4 ≡ rest % 4 = let e = t.kept in omega (arith, e) in
    let quarter : q / 4 ≡ rest / 4 + low * V = let e = t.kept in omega (arith, e) in
    let split : rest * W ≡ (4 * (rest / 4) + q % 4) * W = ap (λ (x : ℕ). x * W) (omega (arith, d)) in
    let most : q % 4 * W ≤ 3 * W = mul-le-mul_right W (omega arith) in
    let high : r * (W * V) ≡ r * 4194304 = ap (λ (x : ℕ). r * x) whole in
    record {
      whole = omega (arith, whole);
      digits = let e = t.digits in omega (arith, e, split);
      taken = let e = t.taken in omega (arith, e, most);
      kept = omega (arith, quarter, high);
    }

-- ---- the product of the digits that are taken

plus_times : (a b m : ℤ) → (a +ℤ b) *ℤ m ≡ (a *ℤ m) +ℤ (b *ℤ m)
plus_times a b m =
    let s = sum_is_lem a b in
    let x = ap (λ (n : ℕ). n * up m) s in
    let y = ap (λ (n : ℕ). n * down m) s in
    omega (arith, ints, x, y)

product_next : (W low r : ℕ) (p d m h t : ℤ) → (pos W *ℤ h) +ℤ pos low ≡ p *ℤ m → (t *ℤ pos 4) +ℤ pos r ≡ h +ℤ (d *ℤ m)
    → (pos (4 * W) *ℤ t) +ℤ pos (low + r * W) ≡ (p +ℤ (d *ℤ pos W)) *ℤ m
product_next W low r p d m h t e f =
    let g : 4 * up t + r + down h + (up d * down m + down d * up m) ≡ up h + (up d * up m + down d * down m) + 4 * down t = omega (arith, ints, f) in
    let k = ap (λ (x : ℕ). W * x) g in
    let x = product_is d (pos W) in
    let s : (pos (4 * W) *ℤ t) +ℤ pos (low + r * W) ≡ (p *ℤ m) +ℤ ((d *ℤ pos W) *ℤ m) =
    omega (arith, ints, e, k, ap (λ (n : ℕ). n * up m) x.0, ap (λ (n : ℕ). n * down m) x.0, ap (λ (n : ℕ). n * up m) x.1, ap (λ (n : ℕ). n * down m) x.1) in
    s ∙ sym (plus_times p (d *ℤ pos W) m)

-- ---- a multiply after some phases

-- c phases are left, of the product of the 24 bits q0 and of m
record IsPartial (c q0 : ℕ) (m : ℤ) (u : Latches) : Type 0 where
  m_is : signed u.m ≡ m
  part : IsPart (signed u.h)
  small : u.q < 2 ^ 24
  W : ℕ
  p : ℕ
  rest : ℕ
  low : ℕ
  taken : IsTaken W (4 ^ c) q0 p rest low u.q
  product : (pos W *ℤ signed u.h) +ℤ pos low ≡ pos p *ℤ m

partial_next : (c q0 : ℕ) (m : ℤ) (u v : Latches) → IsPartial (suc c) q0 m u → IsShifted (pos (u.q % 4)) u v → IsPartial c q0 m v
partial_next c q0 m u v a x =
    let t : IsTaken a.W (4 * 4 ^ c) q0 a.p a.rest a.low u.q = subst (λ (V : ℕ). IsTaken a.W V q0 a.p a.rest a.low u.q) (pow-succ' 4 c) a.taken in
    let T : ℕ → Type 0 = λ q. IsTaken (4 * a.W) (4 ^ c) q0 (a.p + u.q % 4 * a.W) (a.rest / 4) (a.low + x.low * a.W) q in
    let sum : (signed v.h *ℤ pos 4) +ℤ pos x.low ≡ signed u.h +ℤ (pos (u.q % 4) *ℤ m) = x.sum ∙ ap (λ (y : ℤ). signed u.h +ℤ (pos (u.q % 4) *ℤ y)) a.m_is in
    record {
      m_is = ap signed x.m ∙ a.m_is;
      part = x.part;
      small = let e = x.q in let s = a.small in let f = x.few in omega (arith, e, s, f);
      W = 4 * a.W;
      p = a.p + u.q % 4 * a.W;
      rest = a.rest / 4;
      low = a.low + x.low * a.W;
      taken = subst T (sym x.q) (taken_next a.W (4 ^ c) q0 a.p a.rest a.low u.q x.low t x.few);
      product = product_next a.W a.low x.low (pos a.p) (pos (u.q % 4)) m (signed u.h) (signed v.h) a.product sum;
    }

partial_first : (a m : ℕ) (high : Bool) → a < 2 ^ 26 → m < 2 ^ 26 → IsPartial 12 (a / 4) (fraction m) (issued_multiply a m high)
partial_first a m high a_small small =
    record {
      m_is = part_word (fraction m) (fraction_part m small);
      part = record { low = omega (arith, ints); high = omega (arith, ints) };
      small = omega arith;
      W = 1;
      p = 0;
      rest = a / 4;
      low = 0;
      taken = record { whole = refl; digits = omega arith; taken = omega arith; kept = omega arith };
      product = omega (arith, ints);
    }

-- ---- a phase of a multiply

is_busy : (high : Bool) → is_idle (multiply_kind high) ≡ false
is_busy true = refl
is_busy false = refl

begins : (a m : ℕ) (high : Bool) → kind (issued_multiply a m high) ≡ multiply_kind high
begins a m true = refl
begins a m false = refl

begins_count : (a m : ℕ) (high : Bool) → count (issued_multiply a m high) ≡ 12
begins_count a m true = refl
begins_count a m false = refl

multiplies : (high : Bool) (u : Latches) → phase_by (multiply_kind high) u ≡ multiply_phase u
multiplies true u = refl
multiplies false u = refl

shifted : (high last : Bool) (c q0 : ℕ) (m : ℤ) (u : Latches) → kind u ≡ multiply_kind high → count u ≡ suc c → (suc c == 1) ≡ last → IsPart m → IsPartial (suc c) q0 m u
    → IsShifted (digit last (u.q % 4)) u (phase_of u)
shifted high last c q0 m u k n is mp a =
    let some : 0 < count u = omega (arith, n) in
    subst (IsShifted (digit last (u.q % 4)) u) (sym (made u (multiply_kind high) k some ∙ multiplies high u))
    (shifted_by last u (ap (λ (x : ℕ). x == 1) n ∙ is) a.part (subst IsPart (sym a.m_is) mp) a.small)

partial : (n c a m : ℕ) (high : Bool) → suc c + n ≡ 12 → a < 2 ^ 26 → m < 2 ^ 26 → IsPartial (suc c) (a / 4) (fraction m) (after_phases n (issued_multiply a m high))
partial zero c a m high e a_small small =
    let all : 12 ≡ suc c = omega (arith, e) in
    subst (λ (x : ℕ). IsPartial x (a / 4) (fraction m) (issued_multiply a m high)) all (partial_first a m high a_small small)
partial (suc n) c a m high e a_small small =
    let u : Latches = after_phases n (issued_multiply a m high) in
    let so : IsPartial (suc (suc c)) (a / 4) (fraction m) u = partial n (suc c) a m high (omega (arith, e)) a_small small in
    let w = afterwards n (issued_multiply a m high) (ap is_idle (begins a m high) ∙ is_busy high) in
    let n_is : count u ≡ suc (suc c) = let x = w.count in let y = begins_count a m high in omega (arith, x, y, e) in
    let k : kind u ≡ multiply_kind high = w.kind ∙ begins a m high in
    partial_next (suc c) (a / 4) (fraction m) u (phase_of u) so (shifted high false (suc c) (a / 4) (fraction m) u k n_is (ne_eqb _ _ (omega arith)) (fraction_part m small) so)

-- ---- the last phase: its digit has a sign

-- the digits with the last one signed are the signed 24 bits
signed_digits : (d p a : ℕ) → d < 4 → p < 4194304 → a / 4 ≡ d * 4194304 + p → a < 2 ^ 26 → pos p +ℤ (digit true d *ℤ pos 4194304) ≡ fraction a
signed_digits zero p a few small e word = grind (arith, ints)
signed_digits (suc zero) p a few small e word = grind (arith, ints)
signed_digits (suc (suc zero)) p a few small e word = grind (arith, ints)
signed_digits (suc (suc (suc zero))) p a few small e word = grind (arith, ints)
signed_digits (suc (suc (suc (suc n)))) p a few small e word = absurd (omega (arith, few))

-- the product of 24 bits and 24 bits stands in H and Q
whole_product : (a : ℕ) (m : ℤ) (u v : Latches) → a < 2 ^ 26 → IsPartial 1 (a / 4) m u → IsShifted (digit true (u.q % 4)) u v
    → (signed v.h *ℤ pos 16777216) +ℤ pos v.q ≡ fraction a *ℤ m
whole_product a m u v small s x =
    let t : IsTaken s.W 4 (a / 4) s.p s.rest s.low u.q = s.taken in
    let w : s.W ≡ 4194304 = let e = t.whole in omega (arith, e) in
    let digits : a / 4 ≡ s.rest * 4194304 + s.p = t.digits ∙ ap (λ (y : ℕ). s.rest * y + s.p) w in
    let p_small : s.p < 4194304 = let e = t.taken in omega (arith, e, w) in
    let d : u.q % 4 ≡ s.rest = let e = t.kept in omega (arith, e, digits) in
    let again : a / 4 ≡ u.q % 4 * 4194304 + s.p = omega (arith, digits, d) in
    let signed_a : pos s.p +ℤ (digit true (u.q % 4) *ℤ pos s.W) ≡ fraction a =
    ap (λ (y : ℕ). pos s.p +ℤ (digit true (u.q % 4) *ℤ pos y)) w ∙ signed_digits (u.q % 4) s.p a (omega arith) p_small again small in
    let sum : (signed v.h *ℤ pos 4) +ℤ pos x.low ≡ signed u.h +ℤ (digit true (u.q % 4) *ℤ m) =
    x.sum ∙ ap (λ (y : ℤ). signed u.h +ℤ (digit true (u.q % 4) *ℤ y)) s.m_is in
    let all = product_next s.W s.low x.low (pos s.p) (digit true (u.q % 4)) m (signed u.h) (signed v.h) s.product sum in
    let h : signed v.h *ℤ pos 16777216 ≡ pos (4 * s.W) *ℤ signed v.h =
    let e : pos (4 * s.W) *ℤ signed v.h ≡ pos 16777216 *ℤ signed v.h = ap (λ (y : ℕ). pos (4 * y) *ℤ signed v.h) w in omega (arith, ints, e) in
    let q : v.q ≡ s.low + x.low * s.W =
    let e : x.low * s.W ≡ x.low * 4194304 = ap (λ (y : ℕ). x.low * y) w in let f = t.kept in let g = x.q in omega (arith, e, f, g, d) in
    (λ i. h i +ℤ pos (q i)) ∙ all ∙ ap (λ (y : ℤ). y *ℤ m) signed_a

result_word : (h q : ℕ) → word_of (int_div_euclid ((signed h *ℤ pos 16777216) +ℤ pos q) (pos (2 ^ 21))) ≡ (8 * h + q / 2 ^ 21) % 2 ^ 26
result_word h q =
    ap word_of (floor_is ((signed h *ℤ pos 16777216) +ℤ pos q) ((signed h *ℤ pos 8) +ℤ pos (q / 2097152)) (q % 2097152) (omega (arith, ints)) (omega arith))
    ∙ word_of_eight h (q / 2 ^ 21)

result_is : (high : Bool) (v : Latches) → result_by (multiply_kind high) v ≡ (8 * v.h + v.q / 2 ^ 21) % 2 ^ 26
result_is true v = refl
result_is false v = refl

-- what stands after twelve phases
product_after : (n a m : ℕ) (high : Bool) → suc n ≡ 12 → a < 2 ^ 26 → m < 2 ^ 26 → result_of (after_phases (suc n) (issued_multiply a m high)) ≡ product a m
product_after n a m high e a_small small =
    let u : Latches = after_phases n (issued_multiply a m high) in
    let s : IsPartial 1 (a / 4) (fraction m) u = partial n 0 a m high (omega (arith, e)) a_small small in
    let w = afterwards n (issued_multiply a m high) (ap is_idle (begins a m high) ∙ is_busy high) in
    let one : count u ≡ 1 = let x = w.count in let y = begins_count a m high in omega (arith, x, y, e) in
    let k : kind u ≡ multiply_kind high = w.kind ∙ begins a m high in
    let x : IsShifted (digit true (u.q % 4)) u (phase_of u) = shifted high true 0 (a / 4) (fraction m) u k one refl (fraction_part m small) s in
    let k_after : kind (phase_of u) ≡ multiply_kind high = (next u (ap is_idle k ∙ is_busy high) (omega (arith, one))).kind ∙ k in
    ap (λ (y : Kind). result_by y (phase_of u)) k_after ∙ result_is high (phase_of u) ∙ sym (result_word (phase_of u).h (phase_of u).q)
    ∙ ap (λ (z : ℤ). word_of (int_div_euclid z (pos (2 ^ 21)))) (whole_product a (fraction m) u (phase_of u) a_small s x)

pub multiply-lands : (a m : ℕ) (high : Bool) (u : Latches) → u ≡ issued_multiply a m high → a < 2 ^ 26 → m < 2 ^ 26 → LandsOnlyIn 12 (product a m) u
multiply-lands a m high u e a_small small =
    subst (LandsOnlyIn 12 (product a m)) (sym e)
    (lands-only 12 (product a m) (issued_multiply a m high) (ap is_idle (begins a m high) ∙ is_busy high) (begins_count a m high)
    (λ n all. product_after n a m high all a_small small))

-- its kind stays
pub multiply-kind : (a m : ℕ) (high : Bool) (n : ℕ) → kind (after_phases n (issued_multiply a m high)) ≡ multiply_kind high
multiply-kind a m high n = (afterwards n (issued_multiply a m high) (ap is_idle (begins a m high) ∙ is_busy high)).kind ∙ begins a m high
