use Rattle.std.proofs.Common.{arith}
use Rattle.lvdc_lines.proofs.LineLists.{lines_below_more}
use Rattle.lvdc_report.specs.Report.{plain_line}
use Rattle.lvdc_report.proofs.words.put_sector.Goals as goal

pub loop-number-init : goal.loop-number-init
loop-number-init c = record { lines = λ m is before so_far. so_far; short = omega arith; from = omega arith }

pub loop-number-preserved : goal.loop-number-preserved
loop-number-preserved c = record {
  lines = λ m is before so_far.
      lines_below_more (plain_line c.args.plain.now.banks m) c.loop-number.number before c.loop-number.out.items c.put_line_at.new.out.items
      (c.loop-number.invariant.lines m is before so_far) (rw c.numbered.ensures at (c.in_ok-put_line_at.ensures.line m is));
  short = omega (arith, c.in_ok-put_line_at.ensures.short, c.loop-number.invariant.short, c.loop-number.invariant.from);
  from = omega (arith, c.loop-number.invariant.from);
}
