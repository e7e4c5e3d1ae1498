use Rattle.std.proofs.Common.{arith, refl}
use Rattle.lvdc_report.proofs.Counts.{counts_below_none, counts_below_more}
use Rattle.lvdc_report.proofs.soak.all_counts.Goals as goal

pub loop-before-init : goal.loop-before-init
loop-before-init c = record { sum = counts_below_none c.args.machine.now.counts; few = omega arith }

pub loop-before-preserved : goal.loop-before-preserved
loop-before-preserved c = record {
  sum = counts_below_more c.args.machine.now.counts c.loop-before.before c.loop-before.sum _ c.loop-before.invariant.sum (rw c.three_counts-sum.ensures.sum refl);
  few = omega (arith, c.three_counts-sum.ensures.few);
}
