-- Fractions as i64 holds them, and their product and quotient.
use Rattle.std.proofs.Common.{◌≡◌, ℕ, ◌<◌, ◌≤◌, ◌*◌, ◌/◌, ◌^◌, Bool, true, false, not, nat_lt, ℤ, pos, negsuc, ◌*ℤ◌, ◌≤ℤ◌, int_lt, unsigned_abs, FitsSigned, w64, to_z, of_z, refl, sym, ap, ◌∙◌, subst, arith}
use Rattle.std.specs.Bool.{if◌then◌else◌}
use Rattle.std.specs.Int.{is_negative}
use Rattle.std.proofs.lemmas.Bool.{lt-ltb, le-ltb}
use Rattle.std.proofs.lemmas.Int.{ints, to_z-of_z, fits_signed_mul}
use Rattle.lvdc_word.specs.Results.{fraction, with_sign, quotient, quotient_of, saturated}
use Rattle.lvdc_word.specs.Word.{word_of}
use mathlib.Core.Bool.{beq}

-- a fraction has 24 bits
pub small : (x : ℤ) → negsuc 8388607 ≤ℤ x → x ≤ℤ pos 8388607 → unsigned_abs x ≤ 8388608
small x low high = omega (arith, ints)

pub held : (x : ℤ) → negsuc 8388607 ≤ℤ x → x ≤ℤ pos 8388607 → to_z w64 (of_z w64 x) ≡ x
held x low high = omega (arith, ints)

-- two fractions and their product
module _ (x y : ℤ) (x_low : negsuc 8388607 ≤ℤ x) (x_high : x ≤ℤ pos 8388607) (y_low : negsuc 8388607 ≤ℤ y) (y_high : y ≤ℤ pos 8388607) where
  both_held : to_z w64 (of_z w64 x) *ℤ to_z w64 (of_z w64 y) ≡ x *ℤ y
  both_held = λ i. held x x_low x_high i *ℤ held y y_low y_high i

  pub product_fits : FitsSigned w64 (to_z w64 (of_z w64 x) *ℤ to_z w64 (of_z w64 y))
  product_fits = subst (λ z. FitsSigned w64 z) (sym both_held) (fits_signed_mul w64 x y 8388608 8388608 (small x x_low x_high) (small y y_low y_high) (omega arith))

  pub product_held : to_z w64 (of_z w64 (to_z w64 (of_z w64 x) *ℤ to_z w64 (of_z w64 y))) ≡ x *ℤ y
  product_held = to_z-of_z w64 (to_z w64 (of_z w64 x) *ℤ to_z w64 (of_z w64 y)) product_fits ∙ both_held

-- exactly one of the two
abbrev exactly_one : Bool → Bool → Bool
exactly_one b c = if b then not c else c

-- the quotient where a is below m in magnitude
abbrev proper_quotient : ℤ → ℤ → Bool → ℕ
proper_quotient a m negative = word_of (with_sign negative (unsigned_abs a * 2 ^ 23 / unsigned_abs m) *ℤ pos 4)

-- two Booleans differ where exactly one of them is true
differ : (b c : Bool) → not (beq b c) ≡ exactly_one b c
differ true true = refl
differ true false = refl
differ false true = refl
differ false false = refl

-- the quotient of two words by their fractions and the magnitudes of these
module _ (a m p q : ℕ) (x y : ℤ) (x_is : x ≡ fraction a) (y_is : y ≡ fraction m) (p_is : p ≡ unsigned_abs x) (q_is : q ≡ unsigned_abs y) where
  sign_is : not (beq (int_lt x (pos 0)) (int_lt y (pos 0))) ≡ exactly_one (is_negative (fraction a)) (is_negative (fraction m))
  sign_is = differ (int_lt x (pos 0)) (int_lt y (pos 0)) ∙ (λ i. exactly_one (is_negative (x_is i)) (is_negative (y_is i)))

  by_magnitudes : (r : ℕ) → r ≡ (if nat_lt p q then proper_quotient x y (not (beq (int_lt x (pos 0)) (int_lt y (pos 0))))
      else saturated (not (beq (int_lt x (pos 0)) (int_lt y (pos 0))))) → r ≡ quotient a m
  by_magnitudes r is =
      is ∙ (λ i. if nat_lt (p_is i) (q_is i) then proper_quotient x y (sign_is i) else saturated (sign_is i))
      ∙ (λ i. quotient_of (x_is i) (y_is i) (exactly_one (is_negative (fraction a)) (is_negative (fraction m))))

  pub quotient_below : (u v r : ℕ) → p < q → u ≡ unsigned_abs x → v ≡ unsigned_abs y →
      r ≡ word_of (with_sign (not (beq (int_lt x (pos 0)) (int_lt y (pos 0)))) (u * 2 ^ 23 / v) *ℤ pos 4) → r ≡ quotient a m
  quotient_below u v r below u_is v_is is =
      by_magnitudes r (
      is ∙ (λ i. word_of (with_sign (not (beq (int_lt x (pos 0)) (int_lt y (pos 0)))) (u_is i * 2 ^ 23 / v_is i) *ℤ pos 4))
      ∙ ap (λ t. if t then proper_quotient x y (not (beq (int_lt x (pos 0)) (int_lt y (pos 0))))
      else saturated (not (beq (int_lt x (pos 0)) (int_lt y (pos 0))))) (sym (lt-ltb p q below))
      )

  -- the greatest one
  pub quotient_most : (r : ℕ) → q ≤ p → r ≡ saturated (not (beq (int_lt x (pos 0)) (int_lt y (pos 0)))) → r ≡ quotient a m
  quotient_most r above is =
      by_magnitudes r (
      is
      ∙ ap (λ t. if t then proper_quotient x y (not (beq (int_lt x (pos 0)) (int_lt y (pos 0))))
      else saturated (not (beq (int_lt x (pos 0)) (int_lt y (pos 0))))) (sym (le-ltb p q above))
      )
