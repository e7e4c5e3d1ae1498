-- A printed number, read again, is the number.
use Rattle.std.proofs.Common.{◌≡◌, ℕ, ◌+◌, ◌-◌, ◌*◌, ◌/◌, ◌%◌, ◌^◌, ◌<◌, ◌≤◌, zero, suc, true, List, ◌∷◌, [], Some, refl, ap, ◌∙◌, length, arith, rules, length-append}
use Rattle.std.specs.Prelude.{decimal, nat_lt, nat_le, fold, if◌then◌else◌, Bool}
use Rattle.std.specs.declared.option.Option.TheVariants.{None}
use Rattle.std.specs.List.{list_all}
use Rattle.std.proofs.Math.Nat.{pow-suc}
use Rattle.std.proofs.lemmas.Bool.Decides.{nat_tests}
use Rattle.std.proofs.lemmas.List.Sums.{fold-append}
use Rattle.std.proofs.lemmas.List.Folds.{list_all-append}
use Rattle.std.proofs.lemmas.Str.Parse.{IsNumeralModel, numerals_by_fold}
use Rattle.std.proofs.lemmas.Fmt.{digits_decimal, digits_value-decimal, length-decimal-le, decimal_nonempty}
use Rattle.lvdc_text.specs.Numbers.{is_digit, value_of, is_number, number_of, octal_text}
use Rattle.lvdc_text.proofs.Digits.{octal_text-zero, octal_text-suc}

nat_lt-true : (m n : ℕ) → m < n → nat_lt m n ≡ true
nat_lt-true m n l = grind (arith, nat_tests)

nat_le-true : (m n : ℕ) → m ≤ n → nat_le m n ≡ true
nat_le-true m n l = grind (arith, nat_tests)

-- a text of digits has a number
number_of-digits : (base most : ℕ) (text : List ℕ) → 0 < length text → length text ≤ most → list_all (is_digit base) text ≡ true → number_of base most text ≡ Some (value_of base text)
number_of-digits base most text some few digits =
    let all : is_number base most text ≡ true = rw (nat_lt-true 0 (length text) some, nat_le-true (length text) most few, digits) refl in
    ap (λ (b : Bool). if b then Some (value_of base text) else None) all

is_digit-octal : (n : ℕ) → is_digit 8 (48 + n % 8) ≡ true
is_digit-octal n = rw (nat_le-true 48 (48 + n % 8) (omega arith), nat_lt-true (48 + n % 8) (48 + 8) (omega arith)) refl

pub length-octal_text : (width n : ℕ) → length (octal_text width n) ≡ width
length-octal_text zero n = ap length (octal_text-zero n)
length-octal_text (suc width) n =
    ap length (octal_text-suc width n) ∙ length-append (octal_text width (n / 8)) ((48 + n % 8) ∷ []) ∙ omega (arith, length-octal_text width (n / 8))

digits-octal_text : (width n : ℕ) → list_all (is_digit 8) (octal_text width n) ≡ true
digits-octal_text zero n = ap (list_all (is_digit 8)) (octal_text-zero n)
digits-octal_text (suc width) n =
    ap (list_all (is_digit 8)) (octal_text-suc width n) ∙ list_all-append (is_digit 8) (octal_text width (n / 8)) ((48 + n % 8) ∷ [])
    ∙ rw (digits-octal_text width (n / 8), is_digit-octal n) refl

value_of-octal_text : (width n : ℕ) → n < 8 ^ width → value_of 8 (octal_text width n) ≡ n
value_of-octal_text zero n l = ap (value_of 8) (octal_text-zero n) ∙ omega arith
value_of-octal_text (suc width) n l =
    let fits : n / 8 < 8 ^ width = omega (arith, pow-suc 8 width) in
    ap (value_of 8) (octal_text-suc width n) ∙ fold-append (λ value b. 8 * value + (b - 48)) 0 (octal_text width (n / 8)) ((48 + n % 8) ∷ [])
    ∙ ap (λ value. 8 * value + (48 + n % 8 - 48)) (value_of-octal_text width (n / 8) fits) ∙ omega arith

-- a number in octal digits
pub number_of-octal_text : (most width n : ℕ) → 0 < width → width ≤ most → n < 8 ^ width → number_of 8 most (octal_text width n) ≡ Some n
number_of-octal_text most width n some few l =
    let size = length-octal_text width n in
    number_of-digits 8 most (octal_text width n) (omega arith) (omega arith) (digits-octal_text width n) ∙ ap Some (value_of-octal_text width n l)

decimal_digits : IsNumeralModel (λ text. list_all (is_digit 10) text ≡ true) (value_of 10)
decimal_digits = numerals_by_fold _ (search rules) (fold (λ value b. 10 * value + (b - 48))) (search rules)

-- a number in decimal digits
pub number_of-decimal : (most n : ℕ) → 0 < most → n < 10 ^ most → n < 2 ^ 64 → number_of 10 most (decimal n) ≡ Some n
number_of-decimal most n some few l =
    number_of-digits 10 most (decimal n) (decimal_nonempty n l) (length-decimal-le most n some few l) (digits_decimal decimal_digits n l) ∙ ap Some (digits_value-decimal decimal_digits n l)
