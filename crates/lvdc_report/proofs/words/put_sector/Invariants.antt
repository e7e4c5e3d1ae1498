use Rattle.std.proofs.Common.{◌≡◌, ℕ, ◌+◌, ◌-◌, ◌*◌, ◌≤◌, ◌++◌, List, length}
use Rattle.lvdc_map.specs.Memory.{Memory, IsMemory}
use Rattle.lvdc_lines.specs.Noted.{lines_below}
use Rattle.lvdc_report.specs.Report.{plain_line}
use Rattle.lvdc_report.proofs.words.put_sector.Given as goal

abbrev pub invariant-loop-number : goal.invariant-loop-number
invariant-loop-number l = record {
  lines : (m : Memory) → IsMemory l.plain.words m → (before : List ℕ)
      → l.initial.out.items ≡ before ++ lines_below (plain_line l.plain.banks m) (256 * l.sector)
      → l.out.items ≡ before ++ lines_below (plain_line l.plain.banks m) l.number;
  short : length l.out.items ≤ length l.initial.out.items + 23 * (l.number - 256 * l.sector);
  from : 256 * l.sector ≤ l.number;
}
