use Rattle.std.proofs.Common.{arith}
use Rattle.lvdc_command_study.specs.Texts.{row_line}
use Rattle.lvdc_lines.proofs.LineLists.{lines_of_more, lines_of_done}
use Rattle.lvdc_command_study.proofs.text.put_rows.Goals as goal

pub loop-row-preserved : goal.loop-row-preserved
loop-row-preserved c =
    let few = c.loop-row.invariant.short in
    let more = c.in_ok-put_row.ensures.short (rw c.row-item.is (c.requires c.loop-row.row-index c.row-item.result c.loop-row-test.true)) in
    record {
      lines = lines_of_more row_line c.loop-row.row-index c.args.rows.now c.row-item.result c.loop-row.out.items c.put_row.new.out.items _
          c.loop-row-test.true c.row-item.is c.in_ok-put_row.ensures.line c.loop-row.invariant.lines;
      short = omega (arith, few, more);
    }

pub returns-clause-lines : goal.returns-clause-lines
returns-clause-lines c =
    lines_of_done row_line c.loop-row.row-index c.args.rows.now c.loop-row.out.items _ c.loop-row-test.false c.loop-row.invariant.lines
