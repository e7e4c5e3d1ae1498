-- No word differs in a sector that is blank in both; else its addresses are compared one by one.
use Rattle.std.proofs.Common.{◌≡◌, ◌+◌, ◌*◌, ◌<◌, true, false, Some, sym, ap, ◌∙◌, arith}
use Rattle.lvdc_map.specs.Address.{Spot, spot_at}
use Rattle.lvdc_model.specs.Runs.{through}
use Rattle.lvdc_model.specs.Trial.{plain_at}
use Rattle.lvdc_runs.specs.Same.{is_same_word}
use Rattle.lvdc_study.proofs.Least.{least-more, least-same, least-found}
use Rattle.lvdc_study.proofs.compare.difference_in_sector.Goals as goal

pub returns-then-are_blank : goal.returns-then-are_blank
returns-then-are_blank c = λ o times h p before.
    least-same o.opening.banks (through o (3 * times)).intended (plain_at o times).memory (256 * c.args.sector) 256
    (λ i less. c.are_blank.ensures c.if-are_blank.true o times h p (256 * c.args.sector + i) (omega (arith, less, c.requires.sector)) (omega (arith, less)))
    before

pub loop-number-init : goal.loop-number-init
loop-number-init c = λ o times h p before. before

pub returns-then-not-is_same_word : goal.returns-then-not-is_same_word
returns-then-not-is_same_word c = λ o times h p before.
    let one = (through o (3 * times)).intended in
    let other = (plain_at o times).memory in
    let small : c.loop-number.number < 32768 = omega (arith, c.loop-number-test.true, c.requires.sector) in
    let differs : is_same_word o.opening.banks one other (spot_at c.loop-number.number) ≡ false =
    sym (c.is_same_word.ensures o times h p ∙ ap (λ (at : Spot). is_same_word o.opening.banks one other at) c.numbered-at.ensures) ∙ c.if-not-is_same_word.true in
    least-found o.opening.banks one other 32768 c.loop-number.number small (c.loop-number.invariant o times h p before) differs
    ∙ sym (ap (λ (at : Spot). Some at) c.numbered-at.ensures)

pub loop-number-preserved : goal.loop-number-preserved
loop-number-preserved c = λ o times h p before.
    let one = (through o (3 * times)).intended in
    let other = (plain_at o times).memory in
    let here : is_same_word o.opening.banks one other (spot_at c.loop-number.number) ≡ true =
    sym (c.is_same_word.ensures o times h p ∙ ap (λ (at : Spot). is_same_word o.opening.banks one other at) c.numbered-at.ensures) ∙ c.if-not-is_same_word.false in
    least-more o.opening.banks one other c.loop-number.number (c.loop-number.invariant o times h p before) here
