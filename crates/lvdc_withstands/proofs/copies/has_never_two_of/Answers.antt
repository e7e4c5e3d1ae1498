use Rattle.lvdc_withstands.proofs.Sweeps.{two-first, two-outer, last-two}
use Rattle.lvdc_withstands.proofs.copies.has_never_two_of.Goals as goal

pub returns-then-not-are_apart : goal.returns-then-not-are_apart
returns-then-not-are_apart c = two-first c.args.lines.now c.args.number c.if-not-are_apart.ensures

pub returns-then-not-are_apart-2 : goal.returns-then-not-are_apart-2
returns-then-not-are_apart-2 c = two-outer c.args.lines.now c.args.number c.if-not-are_apart-2.ensures

pub returns : goal.returns
returns c = last-two c.args.lines.now c.args.number c.are_apart-3.result c.are_apart-3.ensures c.if-not-are_apart.ensures c.if-not-are_apart-2.ensures
