use Rattle.std.proofs.Common.{◌≡◌, ◌+◌, ◌≤◌, ◌==◌, false, ap, sym, ◌∙◌, length, get_or, arith}
use Rattle.std.proofs.lemmas.Bool.Decides.{nat_tests}
use Rattle.lvdc_text.specs.Numbers.{is_digit}
use Rattle.lvdc_macro.proofs.Substituting.{stays, first_false, second_false}
use Rattle.lvdc_macro.proofs.substitution.digit_at.Goals as goal

pub returns-in_default-clause-none : goal.returns-in_default-clause-none
returns-in_default-clause-none c = λ call arguments.
    let is : c.in-Some.digit.now ≡ get_or c.args.text.now (c.args.at + 1) 0 = c.in-Some.ensures.lookup.4 (omega arith) 0 in
    let no_digit : is_digit 10 c.in-Some.digit.now ≡ false = let v = c.if-is_ascii_digit.ensures in grind (arith, nat_tests) in
    stays call arguments c.args.at c.args.text.now c.requires (λ more. second_false _ _ (ap (is_digit 10) (sym is) ∙ no_digit))

pub returns-in_default-2-clause-none : goal.returns-in_default-2-clause-none
returns-in_default-2-clause-none c = λ call arguments.
    let other : (get_or c.args.text.now c.args.at 0 == 38) ≡ false = grind (arith, nat_tests) in
    stays call arguments c.args.at c.args.text.now c.requires (λ more. first_false _ _ other)

pub returns-in_default-3-clause-none : goal.returns-in_default-3-clause-none
returns-in_default-3-clause-none c = λ call arguments.
    let ends : length c.args.text.now ≤ c.args.at + 1 = (rw c.in_default.is at c.get.ensures.lookup).3 in
    stays call arguments c.args.at c.args.text.now c.requires (λ more. absurd (omega arith))
