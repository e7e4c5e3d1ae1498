use Rattle.std.proofs.Common.{◌≡◌, ◌+◌, ◌*◌, ◌≤◌, ◌++◌, length}
use Rattle.lvdc_map.specs.Memory.{Memory, IsMemory}
use Rattle.lvdc_lines.specs.Noted.{lines_below}
use Rattle.lvdc_report.specs.Report.{plain_line}
use Rattle.lvdc_report.proofs.words.put_memory.Given as goal

abbrev pub invariant-loop-sector : goal.invariant-loop-sector
invariant-loop-sector l = record {
  lines : (m : Memory) → IsMemory l.plain.words m → l.out.items ≡ l.initial.out.items ++ lines_below (plain_line l.plain.banks m) (256 * l.sector);
  short : length l.out.items ≤ length l.initial.out.items + 23 * (256 * l.sector);
}
