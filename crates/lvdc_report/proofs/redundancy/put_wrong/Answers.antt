use Rattle.std.proofs.Common.{◌+◌, arith}
use Rattle.lvdc_report.specs.Voted.{wrong_lines}
use Rattle.lvdc_lines.proofs.LineLists.{lines_below_none, lines_below_more}
use Rattle.lvdc_report.proofs.redundancy.put_wrong.Goals as goal

pub loop-before-init : goal.loop-before-init
loop-before-init c = record {
  lines = lines_below_none (λ before. wrong_lines c.args.machine.now.counts (before + 1)) c.args.out.now.items;
  short = omega arith;
}

pub loop-before-preserved : goal.loop-before-preserved
loop-before-preserved c = record {
  lines = lines_below_more (λ before. wrong_lines c.args.machine.now.counts (before + 1)) c.loop-before.before c.args.out.now.items c.loop-before.out.items
      c.put_wrong_lines.new.out.items c.loop-before.invariant.lines c.in_ok-put_wrong_lines.ensures.lines;
  short = omega (arith, c.in_ok-put_wrong_lines.ensures.short);
}
