use Rattle.std.proofs.Common.{sym, ap, ◌∙◌}
use Rattle.lvdc_withstands.specs.Form.{none_twice}
use Rattle.lvdc_withstands.proofs.Naming.{named-next, named-twice, none-named}
use Rattle.lvdc_withstands.proofs.places.has_none_twice.Goals as goal

pub returns-then-not-names_a_place : goal.returns-then-not-names_a_place
returns-then-not-names_a_place c = sym (ap none_twice (none-named c.args.lines.now (sym c.names_a_place.ensures ∙ c.if-not-names_a_place.true)))

pub returns-then-not-is_first_to_name : goal.returns-then-not-is_first_to_name
returns-then-not-is_first_to_name c =
    named-twice c.args.lines.now c.loop-line.line-index c.line-item.result c.loop-line.named.items c.is_first_to_name.new.named.items c.loop-line-test.true c.line-item.is
    c.loop-line.invariant c.if-not-is_first_to_name.ensures

pub loop-line-preserved : goal.loop-line-preserved
loop-line-preserved c =
    named-next c.args.lines.now c.loop-line.line-index c.line-item.result c.loop-line.named.items c.is_first_to_name.new.named.items c.loop-line-test.true c.line-item.is
    c.loop-line.invariant c.if-not-is_first_to_name.ensures
