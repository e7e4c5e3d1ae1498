-- Signed values of words, and quotients by powers of two.
use Rattle.std.proofs.Common.{◌≡◌, ℕ, ◌+◌, ◌*◌, ◌/◌, ◌%◌, ◌^◌, ◌<◌, arith}
use Rattle.std.specs.Prelude.{ℤ, pos, negsuc, ◌+ℤ◌, ◌-ℤ◌, ◌*ℤ◌, ◌≤ℤ◌, nat_lt}
use Rattle.std.specs.Int.{int_div_euclid}
use Rattle.std.proofs.lemmas.Bool.{cond_both}
use Rattle.std.proofs.lemmas.Int.{ints}
use Rattle.lvdc_word.specs.Word.{signed, word_of}
use Rattle.lvdc_word.specs.Results.{fraction}

-- the word of a value that fits has that value
pub signed_word : (z : ℤ) → negsuc 33554431 ≤ℤ z → z ≤ℤ pos 33554431 → signed (word_of z) ≡ z
signed_word (pos n) low high = grind (arith, ints)
signed_word (negsuc n) low high = grind (arith, ints)

pub four_times : (z : ℤ) → negsuc 33554431 ≤ℤ z → z ≤ℤ pos 33554431 → (int_div_euclid z (pos 4) *ℤ pos 4) +ℤ pos (word_of z % 4) ≡ z
four_times (pos n) low high = omega (arith, ints)
four_times (negsuc n) low high = omega (arith, ints)

-- the value of an upper part of 24 bits
pub record IsPart (z : ℤ) : Type 0 where
  pub low : negsuc 8388607 ≤ℤ z
  pub high : z ≤ℤ pos 8388607

pub fraction_part : (w : ℕ) → w < 2 ^ 26 → IsPart (fraction w)
fraction_part w small = record { low = grind (arith, ints); high = grind (arith, ints) }

pub part_word : (z : ℤ) → IsPart z → signed (word_of z) ≡ z
part_word z p = signed_word z (let l = p.low in omega (arith, ints, l)) (let h = p.high in omega (arith, ints, h))

-- a quotient by 2^21 is known by what is left
pub floor_is : (z x : ℤ) (r : ℕ) → z ≡ (x *ℤ pos 2097152) +ℤ pos r → r < 2097152 → int_div_euclid z (pos 2097152) ≡ x
floor_is (pos n) x r e small = omega (arith, ints, e)
floor_is (negsuc n) x r e small = omega (arith, ints, e)

-- and so is a word
pub word_is : (z k : ℤ) (w : ℕ) → z ≡ (k *ℤ pos 67108864) +ℤ pos w → w < 67108864 → word_of z ≡ w
word_is (pos n) k w e small = omega (arith, ints, e)
word_is (negsuc n) k w e small = omega (arith, ints, e)

-- the word of eight times a signed word and a bit more
pub word_of_eight : (w c : ℕ) → word_of ((signed w *ℤ pos 8) +ℤ pos c) ≡ (8 * w + c) % 2 ^ 26
word_of_eight w c =
    cond_both (nat_lt w (2 ^ 25)) (pos w) (pos w -ℤ pos (2 ^ 26)) (λ z. word_of ((z *ℤ pos 8) +ℤ pos c) ≡ (8 * w + c) % 2 ^ 26)
    (λ _. word_is ((pos w *ℤ pos 8) +ℤ pos c) (pos ((8 * w + c) / 67108864)) ((8 * w + c) % 67108864) (omega (arith, ints)) (omega arith))
    (λ _. word_is (((pos w -ℤ pos 67108864) *ℤ pos 8) +ℤ pos c) (pos ((8 * w + c) / 67108864) -ℤ pos 8) ((8 * w + c) % 67108864) (omega (arith, ints)) (omega arith))
