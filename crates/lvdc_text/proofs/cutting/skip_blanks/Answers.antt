use Rattle.std.proofs.Common.{sym, ◌∙◌, arith}
use Rattle.lvdc_text.proofs.FirstParts.{blank_skipped}
use Rattle.lvdc_text.proofs.cutting.skip_blanks.Goals as goal

pub loop-at-preserved : goal.loop-at-preserved
loop-at-preserved c = record {
  after = omega arith;
  within = omega arith;
  skipped = c.loop-at.invariant.skipped ∙ blank_skipped c.loop-at.at c.args.text.now c.loop-at-test.true (sym c.is_blank.ensures ∙ c.if-is_blank.true);
}
