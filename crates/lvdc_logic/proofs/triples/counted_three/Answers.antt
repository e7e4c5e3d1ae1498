use Rattle.std.proofs.Common.{rules, sym, ◌∙◌}
use Rattle.lvdc_logic.proofs.Differing.{unanimous_counted}
use Rattle.lvdc_logic.proofs.triples.counted_three.Goals as goal

pub returns-then-is_unanimous : goal.returns-then-is_unanimous
returns-then-is_unanimous g c = unanimous_counted c.args.triple.now c.args.counts (search rules) (sym c.is_unanimous.ensures ∙ c.if-is_unanimous.true)
