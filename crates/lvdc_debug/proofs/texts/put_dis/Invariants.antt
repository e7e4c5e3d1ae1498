use Rattle.std.proofs.Common.{◌≡◌, ℕ, ◌+◌, ◌*◌, ◌≤◌, ◌++◌, List, length}
use Rattle.lvdc_port.specs.Device.{Device}
use Rattle.lvdc_model.specs.Trial.{Trial}
use Rattle.lvdc_machine.specs.Stands.{Stands, state_by, shown_of}
use Rattle.lvdc_lines.specs.Noted.{lines_below}
use Rattle.lvdc_debug.specs.Session.{further, instruction_shown}
use Rattle.lvdc_debug.proofs.texts.put_dis.Given as goal

abbrev pub invariant-loop-more : goal.invariant-loop-more
invariant-loop-more l = record {
  lines : (o : Trial) (t : ℕ) (ds : List Device) → Stands o t l.machine ds → l.out.items ≡ l.initial.out.items
      ++ lines_below (λ more. instruction_shown (further l.at more) l.syl (shown_of o (state_by l.machine.end l.machine.mode o t) (further l.at more))) l.more;
  short : length l.out.items ≤ length l.initial.out.items + 25 * l.more;
}
