-- A word and a digit's multiple of another are small numbers.
use Rattle.std.proofs.Common.{ℕ, ◌+◌, ◌-◌, ◌*◌, ◌≤◌, ◌<◌, ◌^◌, FitsSigned, w32, arith}
use Rattle.std.specs.Prelude.{ℤ, pos, negsuc, ◌+ℤ◌, ◌-ℤ◌, ◌*ℤ◌, ◌≤ℤ◌, nat_lt, unsigned_abs}
use Rattle.std.proofs.lemmas.Bool.{cond_both, ltb-true, ltb-false}
use Rattle.std.proofs.lemmas.Int.{ints, fits_signed_from_abs, unsigned_abs-mul}
use native.Mathlib.Nat.{mul-le-mul}
use Rattle.lvdc_word.specs.Word.{signed}

signed_small : (w : ℕ) → w < 2 ^ 26 → unsigned_abs (signed w) ≤ 33554432
signed_small w word =
    cond_both (nat_lt w (2 ^ 25)) (pos w) (pos w -ℤ pos (2 ^ 26)) (λ z. unsigned_abs z ≤ 33554432)
    (λ e. let below = ltb-true w 33554432 e in omega (arith, ints, below))
    (λ e. let above = ltb-false w 33554432 e in omega (arith, ints, above, word))

-- a digit's multiple of a word
module _ (d : ℤ) (m : ℕ) (least : negsuc 1 ≤ℤ d) (most : d ≤ℤ pos 3) (word : m < 2 ^ 26) where
  digit_small : unsigned_abs d ≤ 3
  digit_small = omega (arith, ints, least, most)

  multiple_small : unsigned_abs (d *ℤ signed m) ≤ 100663296
  multiple_small = omega (arith, unsigned_abs-mul d (signed m), mul-le-mul digit_small (signed_small m word))

  pub multiple_fits : FitsSigned w32 (d *ℤ signed m)
  multiple_fits = fits_signed_from_abs w32 (d *ℤ signed m) (omega (arith, multiple_small))

  pub sum_fits : (h : ℕ) → h < 2 ^ 26 → FitsSigned w32 (signed h +ℤ (d *ℤ signed m))
  sum_fits h small =
      let one = signed_small h small in
      let more = multiple_small in
      fits_signed_from_abs w32 (signed h +ℤ (d *ℤ signed m)) (omega (arith, ints, one, more))
