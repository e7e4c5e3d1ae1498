-- Worked values of the definitions.
use Rattle.std.proofs.Common.{◌≡◌, refl, negsuc, true, false}
use Rattle.lvdc_word.specs.Word.{signed, joined, upper, lower}
use Rattle.lvdc_word.specs.Cell.{code_of, is_good, word_in}
use Rattle.lvdc_word.specs.Results.{product, quotient}

lowest : signed 0o200000000 ≡ negsuc 33554431
lowest = refl

halves_again : joined (upper 0o123456701) (lower 0o123456701) ≡ 0o123456701
halves_again = refl

half_times_half : product 0o100000000 0o100000000 ≡ 0o040000000
half_times_half = refl

the_only_product_that_wraps : product 0o200000000 0o200000000 ≡ 0o200000000
the_only_product_that_wraps = refl

quarter_by_half : quotient 0o040000000 0o100000000 ≡ 0o100000000
quarter_by_half = refl

equal_magnitudes : quotient 0o100000000 0o100000000 ≡ 0o177777774
equal_magnitudes = refl

equal_magnitudes_of_two_signs : quotient 0o300000000 0o100000000 ≡ 0o200000000
equal_magnitudes_of_two_signs = refl

zero_by_zero : quotient 0 0 ≡ 0o177777774
zero_by_zero = refl

one_negative : quotient 0o377777774 0 ≡ 0o200000000
one_negative = refl

code_of_zero : code_of 0 ≡ 0o1000020000
code_of_zero = refl

no_ones_are_bad : is_good 0 ≡ false
no_ones_are_bad = refl

a_bad_half_beside_a_good_one : is_good 0o20000 ≡ false
a_bad_half_beside_a_good_one = refl

a_code_is_good : is_good (code_of 0o177777777) ≡ true
a_code_is_good = refl

the_word_again : word_in (code_of 0o377777777) ≡ 0o377777777
the_word_again = refl
