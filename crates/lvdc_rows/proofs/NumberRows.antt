-- Worked numbers beyond those of lvdc_word: sums that wrap, shifts by three places, products and quotients of two unlike operands, and
-- cells with one wrong parity bit.
use Rattle.std.proofs.Common.{◌≡◌, ◌+◌, ◌*◌, ◌^◌, true, false, refl}
use Rattle.lvdc_word.specs.Cell.{is_good, code_of}
use Rattle.lvdc_word.specs.Results.{product, quotient}
use Rattle.lvdc_word.specs.Word.{sum, difference, shifted_left, shifted_right}

-- ---- sums and shifts

-- -1 and 1, and -1 and -1
sums_wrap : (sum 0o377777777 1 ≡ 0) × (sum 0o377777777 0o377777777 ≡ 0o377777776)
sums_wrap = (refl, refl)

-- 1 less 2 is -1
a_difference_wraps : difference 1 2 ≡ 0o377777777
a_difference_wraps = refl

-- -1 shifted right is -1; 2 ^ 24 shifted left has the sign's bit, and that one shifted left is 0
three_places : (shifted_right 0o120 3 ≡ 0o12) × (shifted_right 0o377777777 3 ≡ 0o377777777) × (shifted_left 0o12 3 ≡ 0o120)
three_places = (refl, refl, refl)

the_highest_bits : (shifted_left 0o100000000 1 ≡ 0o200000000) × (shifted_left 0o200000000 1 ≡ 0)
the_highest_bits = (refl, refl)

-- ---- fractions: 2 ^ 24 is one half, 2 ^ 23 one quarter

half_of_a_quarter : (product 0o100000000 0o040000000 ≡ 0o020000000) × (product 0o040000000 0o100000000 ≡ 0o020000000)
half_of_a_quarter = (refl, refl)

-- -1/4 by 1/2, and 1/4 by -1/2
negative_quotients : (quotient 0o340000000 0o100000000 ≡ 0o300000000) × (quotient 0o040000000 0o300000000 ≡ 0o300000000)
negative_quotients = (refl, refl)

-- -1/4 by -1/2
two_negatives : quotient 0o340000000 0o300000000 ≡ 0o100000000
two_negatives = refl

-- ---- cells: a half with 13 ones has parity bit 0

all_ones : (code_of 0o377777777 ≡ 8191 * 2 ^ 14 + 8191) × (is_good (8191 * 2 ^ 14 + 8191) ≡ true)
all_ones = (refl, refl)

three_ones_beside_one : (is_good (7 * 2 ^ 14 + 1) ≡ true) × (is_good (2 ^ 14 + 7) ≡ true)
three_ones_beside_one = (refl, refl)

one_bit_is_wrong : (is_good (8190 * 2 ^ 14 + 8191) ≡ false) × (is_good (8191 * 2 ^ 14 + 8190) ≡ false)
one_bit_is_wrong = (refl, refl)
