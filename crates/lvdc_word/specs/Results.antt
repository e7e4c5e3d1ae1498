-- What a multiply and a divide come to: the finished results, as formulas over whole numbers.
use Rattle.std.specs.Prelude.{ℕ, ◌*◌, ◌/◌, ◌^◌, Bool, not, nat_lt, if◌then◌else◌, ℤ, pos, ◌*ℤ◌, neg_ℤ, unsigned_abs}
use Rattle.std.specs.Int.{int_div_euclid, is_negative}
use Rattle.lvdc_word.specs.Word.{signed, word_of}

-- the upper 24 bits of a word, signed: a fraction as the arithmetic unit takes it
abbrev pub fraction : ℕ → ℤ
fraction w = int_div_euclid (signed w) (pos 4)

-- the product of two fractions over 2 ^ 21, rounded down, as a word
abbrev pub product : ℕ → ℕ → ℕ
product a m = word_of (int_div_euclid (fraction a *ℤ fraction m) (pos (2 ^ 21)))

-- a magnitude with a sign
abbrev pub with_sign : Bool → ℕ → ℤ
with_sign negative n = if negative then neg_ℤ (pos n) else pos n

-- the quotient of this sign that is greatest in magnitude: -1, or the greatest fraction below 1
abbrev pub saturated : Bool → ℕ
saturated negative = if negative then 0o200000000 else 0o177777774

-- 2 ^ 23 times the magnitude of a by that of m, rounded down, with this sign, times 4; where a isn't below m, the greatest of this sign
abbrev pub quotient_of : ℤ → ℤ → Bool → ℕ
quotient_of a m negative =
    if nat_lt (unsigned_abs a) (unsigned_abs m) then word_of (with_sign negative (unsigned_abs a * 2 ^ 23 / unsigned_abs m) *ℤ pos 4)
    else saturated negative

-- the quotient of two words: it is negative where exactly one of them is
abbrev pub quotient : ℕ → ℕ → ℕ
quotient a m = quotient_of (fraction a) (fraction m) (if is_negative (fraction a) then not (is_negative (fraction m)) else is_negative (fraction m))
