-- The octal digits of a number that was read are those that it was read from.
use Rattle.std.proofs.Common.{◌≡◌, ℕ, ◌+◌, ◌-◌, ◌*◌, ◌/◌, ◌%◌, ◌<◌, ◌≤◌, zero, suc, true, ltb, leb, ◌&&◌, List, [], ◌∷◌, ◌++◌, length, get_or, take, Some, sym, ap, ◌∙◌, arith, length-take}
use Rattle.std.specs.List.{list_all}
use Rattle.std.proofs.Math.Seq.{take-suc}
use Rattle.std.proofs.lemmas.Bool.{ltb-true, leb-true}
use Rattle.std.proofs.lemmas.List.{take_all, nil_from_length}
use Rattle.std.proofs.lemmas.List.Sums.{fold-append}
use Rattle.std.proofs.lemmas.List.Folds.{list_all-append}
use Rattle.lvdc_text.specs.Numbers.{is_digit, value_of, is_number, number_of, octal_text}
use Rattle.lvdc_text.proofs.Digits.{octal_text-zero, octal_text-suc}
use Rattle.lvdc_image.proofs.Parts.{both, some_if}

-- a text of this length and one more is its front and its last byte
front_and_last : (width : ℕ) (text : List ℕ) → length text ≡ suc width → text ≡ take width text ++ get_or text width 0 ∷ []
front_and_last width text e = sym (take_all (suc width) text (omega arith)) ∙ take-suc text width 0 (omega arith)

octal_text-value_of : (width : ℕ) (text : List ℕ) → length text ≡ width → list_all (is_digit 8) text ≡ true → octal_text width (value_of 8 text) ≡ text
octal_text-value_of zero text e digits = octal_text-zero (value_of 8 text) ∙ sym (nil_from_length text e)
octal_text-value_of (suc width) text e digits =
    let front : List ℕ = take width text in
    let last : ℕ = get_or text width 0 in
    let parts : text ≡ front ++ last ∷ [] = front_and_last width text e in
    let tests = both (list_all (is_digit 8) front) (list_all (is_digit 8) (last ∷ [])) (sym (list_all-append (is_digit 8) front (last ∷ [])) ∙ ap (list_all (is_digit 8)) (sym parts) ∙ digits) in
    let digit = both (is_digit 8 last) true tests.1 in
    let bounds = both (leb 48 last) (ltb last 56) digit.0 in
    let low : 48 ≤ last = leb-true 48 last bounds.0 in
    let high : last < 56 = ltb-true last 56 bounds.1 in
    let value : value_of 8 text ≡ 8 * value_of 8 front + (last - 48) = ap (value_of 8) parts ∙ fold-append (λ (value b : ℕ). 8 * value + (b - 48)) 0 front (last ∷ []) in
    let upper : value_of 8 text / 8 ≡ value_of 8 front = omega arith in
    let lower : 48 + value_of 8 text % 8 ≡ last = omega arith in
    octal_text-suc width (value_of 8 text)
    ∙ ap (λ (n : ℕ). octal_text width n ++ (48 + value_of 8 text % 8) ∷ []) upper
    ∙ ap (λ (d : ℕ). octal_text width (value_of 8 front) ++ d ∷ []) lower
    ∙ ap (λ (t : List ℕ). t ++ last ∷ []) (octal_text-value_of width front (omega (arith, length-take width text)) tests.0)
    ∙ sym parts

pub octal_text-number_of : (width n : ℕ) (text : List ℕ) → length text ≡ width → number_of 8 width text ≡ Some n → octal_text width n ≡ text
octal_text-number_of width n text e read =
    let found = some_if (is_number 8 width text) (Some (value_of 8 text)) n read in
    let value : value_of 8 text ≡ n = let some = found.1 in cc in
    let some = both (ltb 0 (length text)) (leb (length text) width && list_all (is_digit 8) text) found.0 in
    let few = both (leb (length text) width) (list_all (is_digit 8) text) some.1 in
    ap (octal_text width) (sym value) ∙ octal_text-value_of width text e few.1
