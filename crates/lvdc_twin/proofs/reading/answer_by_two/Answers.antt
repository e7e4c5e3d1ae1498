-- A cell that doesn't decode is bad.
use Rattle.std.proofs.Common.{◌≡◌, false, refl}
use Rattle.std.proofs.lemmas.Bool.{false_from_ne_true}
use Rattle.lvdc_word.specs.Cell.{is_good}
use Rattle.lvdc_twin.proofs.reading.answer_by_two.Goals as goal

pub returns-in-Some-None-clause-value : goal.returns-in-Some-None-clause-value
returns-in-Some-None-clause-value c =
    let bad : is_good c.args.others ≡ false = false_from_ne_true (is_good c.args.others) c.in-Some-None.ensures'.good in
    let good = c.in-Some-None.ensures.good in
    rw (good.0, bad, good.1) refl

pub returns-in-None-Some-clause-value : goal.returns-in-None-Some-clause-value
returns-in-None-Some-clause-value c =
    let bad : is_good c.args.mine ≡ false = false_from_ne_true (is_good c.args.mine) (rw c.in-None-Some.is-0 at c.decode.ensures.good) in
    let good = c.in-None-Some.ensures.good in
    rw (bad, good.0, good.1) refl
