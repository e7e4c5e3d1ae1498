use Rattle.std.proofs.Common.{◌≡◌, ◌*◌, ◌≤◌}
use Rattle.lvdc_report.specs.Voted.{counts_below}
use Rattle.lvdc_report.proofs.soak.all_counts.Given as goal

abbrev pub invariant-loop-before : goal.invariant-loop-before
invariant-loop-before l = record {
  sum : l.sum ≡ counts_below l.machine.counts l.before;
  few : l.sum ≤ 9000000 * l.before;
}
