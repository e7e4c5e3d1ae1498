-- Bits of words: the number of a bit, the sign, and a bit under a mask.
use Rattle.std.proofs.Common.{◌≡◌, ℕ, ◌+◌, ◌-◌, ◌/◌, ◌%◌, ◌^◌, ◌<◌, ◌==◌, Bool, true, false, pos, negsuc, min, bit_and, bit_xor, inl, inr, refl, sym, ap, ◌∙◌, arith, if◌then◌else◌}
use Rattle.std.specs.Int.{is_negative, bit_at}
use Rattle.std.proofs.lemmas.Bool.{lt-ltb, le-ltb, cases_lt}
use Rattle.std.proofs.lemmas.Int.{ints}
use Rattle.std.proofs.lemmas.Nat.Bits.{bit_at_and, bit_at_xor, bit_at-lt}
use Rattle.std.proofs.lemmas.Grind.{common_steps}
use Rattle.lvdc_word.specs.Word.{signed, bit_of}

pub bit_of-small : (b : Bool) → bit_of b < 2
bit_of-small true = omega arith
bit_of-small false = omega arith

-- the number of a bit as a bit
pub bit_of-one : (b : Bool) → (bit_of b == 1) ≡ b
bit_of-one true = refl
bit_of-one false = refl

-- a bit of a number, as the number that it is
pub bit_of-test : (n : ℕ) → bit_of (n % 2 == 1) ≡ n % 2
bit_of-test n = grind arith

stuck_bit : (x v m : ℕ) → x < 2 → v < 2 → m < 2 → (x + min ((x + v) % 2) m) % 2 ≡ if m == 1 then v else x
stuck_bit x v m hx hv hm = grind (arith, common_steps)

-- each bit under a mask is the value's, any other one stays
pub stuck_bits : (w mask value i : ℕ) → bit_at (bit_xor w (bit_and (bit_xor w value) mask)) i ≡ if bit_at mask i == 1 then bit_at value i else bit_at w i
stuck_bits w mask value i = simp (bit_at_xor, bit_at_and) (stuck_bit _ _ _ (bit_at-lt w i) (bit_at-lt value i) (bit_at-lt mask i))

-- bit 25 is the sign
pub sign_bit : (w : ℕ) → w < 2 ^ 26 → is_negative (signed w) ≡ (w / 2 ^ 25 % 2 == 1)
sign_bit w small = elim (cases_lt w (2 ^ 25)) [
  | inl low ↦ (
      let none : w / 2 ^ 25 % 2 ≡ 0 = omega arith in
      let same : signed w ≡ pos w = rw (lt-ltb w (2 ^ 25) low) refl in
      ap is_negative same ∙ le-ltb w 0 (omega arith) ∙ sym (ap (λ (n : ℕ). n == 1) none)
      )
  | inr high ↦ (
      let one : w / 2 ^ 25 % 2 ≡ 1 = omega arith in
      let least : signed w ≡ negsuc (67108863 - w) = rw (le-ltb w (2 ^ 25) high) (omega (arith, ints)) in
      ap is_negative least ∙ sym (ap (λ (n : ℕ). n == 1) one)
      )
]
