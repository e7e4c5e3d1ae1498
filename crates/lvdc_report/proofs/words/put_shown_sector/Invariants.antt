use Rattle.std.proofs.Common.{◌≡◌, ℕ, ◌+◌, ◌-◌, ◌*◌, ◌≤◌, ◌++◌, List, length}
use Rattle.lvdc_port.specs.Device.{Device}
use Rattle.lvdc_model.specs.Trial.{Trial}
use Rattle.lvdc_model.specs.Voted.{Voted}
use Rattle.lvdc_machine.specs.Resumed.{state_from, StandsFrom}
use Rattle.lvdc_lines.specs.Noted.{lines_below}
use Rattle.lvdc_report.specs.Voted.{shown_line}
use Rattle.lvdc_report.proofs.words.put_shown_sector.Given as goal

abbrev pub invariant-loop-number : goal.invariant-loop-number
invariant-loop-number l = record {
  lines : (o : Trial) (first : Voted) (n : ℕ) (ds : List Device) → StandsFrom o first n l.machine ds → (before : List ℕ)
      → l.initial.out.items ≡ before ++ lines_below (shown_line l.machine.banks o (state_from l.machine.end l.machine.mode o first n)) (256 * l.sector)
      → l.out.items ≡ before ++ lines_below (shown_line l.machine.banks o (state_from l.machine.end l.machine.mode o first n)) l.number;
  short : length l.out.items ≤ length l.initial.out.items + 23 * (l.number - 256 * l.sector);
  from : 256 * l.sector ≤ l.number;
}
