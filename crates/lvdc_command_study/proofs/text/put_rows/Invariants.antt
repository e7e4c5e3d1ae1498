use Rattle.std.proofs.Common.{◌≡◌, ◌+◌, ◌*◌, ◌≤◌, ◌++◌, drop, length}
use Rattle.lvdc_lines.specs.Noted.{lines_of}
use Rattle.lvdc_command_study.specs.Texts.{row_line}
use Rattle.lvdc_command_study.proofs.text.put_rows.Given as goal

abbrev pub invariant-loop-row : goal.invariant-loop-row
invariant-loop-row l = record {
  lines : l.out.items ++ lines_of row_line (drop l.row-index l.rows) ≡ l.initial.out.items ++ lines_of row_line l.rows;
  short : length l.out.items ≤ length l.initial.out.items + 174 * l.row-index;
}
