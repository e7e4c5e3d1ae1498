use Rattle.std.proofs.Common.{Some, ap, ◌∙◌, arith}
use Rattle.std.proofs.lemmas.Int.{ints}
use Rattle.lvdc_source.specs.Numbers.{above_zero}
use Rattle.lvdc_source.proofs.numbers.magnitude.Goals as goal

pub overflow_cast-result : goal.overflow_cast-result
overflow_cast-result c = let small = c.in_ok-number.ensures.range in omega (arith, ints)

pub returns : goal.returns
returns c = let small = c.in_ok-number.ensures.range in ap Some (omega (arith, ints)) ∙ ap above_zero c.in_ok-number.ensures.value
