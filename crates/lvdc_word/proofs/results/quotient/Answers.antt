use Rattle.std.proofs.Common.{◌∙◌}
use Rattle.lvdc_word.proofs.Fractions.{held, quotient_below, quotient_most}
use Rattle.lvdc_word.proofs.results.quotient.Goals as goal

pub returns-then-unsigned_abs : goal.returns-then-unsigned_abs
returns-then-unsigned_abs c =
    let a = c.fraction-a.ensures in
    let m = c.fraction-m.ensures in
    quotient_below c.args.a c.args.m c.unsigned_abs.result c.unsigned_abs-2.result _ _
    (held c.fraction-a.result a.low a.high ∙ a.value) (held c.fraction-m.result m.low m.high ∙ m.value) c.unsigned_abs.ensures.value c.unsigned_abs-2.ensures.value
    c.unsigned_abs-then-unsigned_abs.result c.unsigned_abs-then-unsigned_abs-2.result c.proper.result
    c.if-unsigned_abs.true c.unsigned_abs-then-unsigned_abs.ensures.value c.unsigned_abs-then-unsigned_abs-2.ensures.value c.proper.ensures

pub returns-else-unsigned_abs : goal.returns-else-unsigned_abs
returns-else-unsigned_abs c =
    let a = c.fraction-a.ensures in
    let m = c.fraction-m.ensures in
    quotient_most c.args.a c.args.m c.unsigned_abs.result c.unsigned_abs-2.result _ _
    (held c.fraction-a.result a.low a.high ∙ a.value) (held c.fraction-m.result m.low m.high ∙ m.value) c.unsigned_abs.ensures.value c.unsigned_abs-2.ensures.value
    c.saturated.result c.if-unsigned_abs.false c.saturated.ensures
