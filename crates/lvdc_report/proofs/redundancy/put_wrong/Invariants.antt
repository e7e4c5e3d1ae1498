use Rattle.std.proofs.Common.{◌≡◌, ◌+◌, ◌*◌, ◌≤◌, ◌++◌, length}
use Rattle.lvdc_lines.specs.Noted.{lines_below}
use Rattle.lvdc_report.specs.Voted.{wrong_lines}
use Rattle.lvdc_report.proofs.redundancy.put_wrong.Given as goal

abbrev pub invariant-loop-before : goal.invariant-loop-before
invariant-loop-before l = record {
  lines : l.out.items ≡ l.initial.out.items ++ lines_below (λ before. wrong_lines l.machine.counts (before + 1)) l.before;
  short : length l.out.items ≤ length l.initial.out.items + 207 * l.before;
}
