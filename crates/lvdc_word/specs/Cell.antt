-- Cells of 28 bits: two halves of 14, each a syllable of 13 bits below its parity bit.
use Rattle.std.specs.Prelude.{ℕ, zero, suc, ◌+◌, ◌-◌, ◌*◌, ◌/◌, ◌%◌, ◌^◌, Bool, ◌&&◌, ◌==◌, bit_and, bit_xor}
use Rattle.lvdc_word.specs.Word.{upper, lower, joined}

-- how many of the lowest bits of a number are 1
abbrev pub ones : ℕ → ℕ → ℕ
ones zero n = 0
ones (suc bits) n = n % 2 + ones bits (n / 2)

-- a half is good where the number of ones among its 14 bits is odd
abbrev pub is_good_half : ℕ → Bool
is_good_half half = ones 14 half % 2 == 1

-- a cell is good where the number of ones is odd in each of its halves of 14 bits
abbrev pub is_good : ℕ → Bool
is_good cell = ones 14 (cell / 2 ^ 14) % 2 == 1 && ones 14 (cell % 2 ^ 14) % 2 == 1

-- a syllable below the parity bit that makes the number of ones odd
abbrev pub half_of : ℕ → ℕ
half_of syllable = (1 - ones 13 syllable % 2) * 2 ^ 13 + syllable

-- the one good cell with the syllables of a word
abbrev pub code_of : ℕ → ℕ
code_of w = half_of (upper w) * 2 ^ 14 + half_of (lower w)

-- the word of the syllables of a cell, whatever its parity bits are
abbrev pub word_in : ℕ → ℕ
word_in cell = joined (cell / 2 ^ 14 % 2 ^ 13) (cell % 2 ^ 13)

-- the cell with the bits under the mask from the value, its other bits as they are: the bits under the mask that differ are turned over
unfoldable pub with_stuck : ℕ → ℕ → ℕ → ℕ
with_stuck cell mask value = bit_xor cell (bit_and (bit_xor cell value) mask)
