use Rattle.std.proofs.Common.{◌≡◌, ◌<◌, ◌+◌, ◌-◌, ◌/◌, ◌%◌, ◌++◌, length, drop, ap, sym, ◌∙◌, arith, rules}
use Rattle.std.proofs.lemmas.List.{drop-set}
use Rattle.lvdc_text.specs.Numbers.{octal_text}
use Rattle.lvdc_text.proofs.Digits.{octal_text-zero, octal_text_step}
use Rattle.lvdc_text.proofs.numbers.fill_octal.Goals as goal

-- the lowest digit of the rest goes in front of the digits that are written
pub loop-at-preserved : goal.loop-at-preserved
loop-at-preserved c =
    let within : c.loop-at.at - 1 < length c.loop-at.digits = omega (arith, c.loop-at.invariant.size) in
    let next : c.loop-at.at - 1 + 1 ≡ c.loop-at.at = omega arith in
    record {
      size = search rules;
      split =
          ap (λ tail. octal_text (c.loop-at.at - 1) (c.loop-at.rest / 8) ++ tail) (drop-set c.loop-at.digits (c.loop-at.at - 1) (48 + c.loop-at.rest % 8) within)
          ∙ octal_text_step (c.loop-at.at - 1) c.loop-at.at c.loop-at.rest (drop (c.loop-at.at - 1 + 1) c.loop-at.digits) (omega arith)
          ∙ ap (λ n. octal_text c.loop-at.at c.loop-at.rest ++ drop n c.loop-at.digits) next
          ∙ c.loop-at.invariant.split;
    }

-- after the last digit nothing of the rest is left
pub returns : goal.returns
returns c =
    let none : c.loop-at.at ≡ 0 = omega arith in
    sym (ap (λ n. octal_text n c.loop-at.rest ++ drop n c.loop-at.digits) none ∙ ap (λ front. front ++ c.loop-at.digits) (octal_text-zero c.loop-at.rest)) ∙ c.loop-at.invariant.split
