use Rattle.std.proofs.Common.{◌≡◌, ℕ, ◌+◌, ◌*◌, ◌≤◌, ◌++◌, List, length}
use Rattle.lvdc_port.specs.Device.{Device}
use Rattle.lvdc_model.specs.Trial.{Trial}
use Rattle.lvdc_model.specs.Voted.{Voted}
use Rattle.lvdc_machine.specs.Resumed.{state_from, StandsFrom}
use Rattle.lvdc_lines.specs.Noted.{lines_below}
use Rattle.lvdc_report.specs.Voted.{shown_line}
use Rattle.lvdc_report.proofs.words.put_shown_memory.Given as goal

abbrev pub invariant-loop-sector : goal.invariant-loop-sector
invariant-loop-sector l = record {
  lines : (o : Trial) (first : Voted) (n : ℕ) (ds : List Device) → StandsFrom o first n l.machine ds → l.out.items ≡ l.initial.out.items
      ++ lines_below (shown_line l.machine.banks o (state_from l.machine.end l.machine.mode o first n)) (256 * l.sector);
  short : length l.out.items ≤ length l.initial.out.items + 23 * (256 * l.sector);
}
