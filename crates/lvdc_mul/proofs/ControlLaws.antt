-- The fields of CONTROL and the word of them.
use Rattle.std.proofs.Common.{◌≡◌, ℕ, ◌/◌, ◌%◌, ◌^◌, ◌<◌, ◌==◌, refl, ap, ◌∙◌, arith}
use Rattle.lvdc_word.specs.Word.{bit_of}
use Rattle.lvdc_word.proofs.Bits.{bit_of-small, bit_of-one}
use Rattle.lvdc_mul.specs.declared.control.Kind.{Kind}
use Rattle.lvdc_mul.specs.declared.control.Kind.TheVariants.{Idle, Multiply, MultiplyHigh, Divide}
use Rattle.lvdc_mul.specs.declared.control.Control.{Control}
use Rattle.lvdc_mul.specs.Control.{kind_of, kind_code, control_of, control_word}

code_small : (k : Kind) → kind_code k < 4
code_small Idle = omega arith
code_small Multiply = omega arith
code_small MultiplyHigh = omega arith
code_small Divide = omega arith

kind_again : (k : Kind) → kind_of (kind_code k) ≡ k
kind_again Idle = refl
kind_again Multiply = refl
kind_again MultiplyHigh = refl
kind_again Divide = refl

-- the fields of the word of fields are these
pub control_of-control_word : (c : Control) → c.count < 32 → control_of (control_word c) ≡ c
control_of-control_word c small =
    let n : bit_of c.negative < 2 = bit_of-small c.negative in
    let s : bit_of c.saturated < 2 = bit_of-small c.saturated in
    let k : kind_code c.kind < 4 = code_small c.kind in
    let code : control_word c % 4 ≡ kind_code c.kind = omega arith in
    let count : control_word c / 2 ^ 2 % 2 ^ 5 ≡ c.count = omega arith in
    let neg : control_word c / 2 ^ 7 % 2 ≡ bit_of c.negative = omega arith in
    let sat : control_word c / 2 ^ 8 % 2 ≡ bit_of c.saturated = omega arith in
    let unnamed : control_word c / 2 ^ 9 ≡ c.unnamed = omega arith in
    let kind : kind_of (control_word c % 4) ≡ c.kind = ap kind_of code ∙ kind_again c.kind in
    let negative : (control_word c / 2 ^ 7 % 2 == 1) ≡ c.negative = ap (λ (b : ℕ). b == 1) neg ∙ bit_of-one c.negative in
    let saturated : (control_word c / 2 ^ 8 % 2 == 1) ≡ c.saturated = ap (λ (b : ℕ). b == 1) sat ∙ bit_of-one c.saturated in
    λ i. record { kind = kind i; count = count i; negative = negative i; saturated = saturated i; unnamed = unnamed i }
