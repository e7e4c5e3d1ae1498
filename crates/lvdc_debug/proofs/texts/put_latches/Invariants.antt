use Rattle.std.proofs.Common.{◌≡◌, ◌+◌, ◌*◌, ◌≤◌, ◌++◌, length}
use Rattle.lvdc_logic.specs.Logic.{latch_of}
use Rattle.lvdc_lines.specs.Noted.{lines_below}
use Rattle.lvdc_debug.specs.Session.{latch_text}
use Rattle.lvdc_debug.proofs.texts.put_latches.Given as goal

abbrev pub invariant-loop-index : goal.invariant-loop-index
invariant-loop-index l = record {
  words : l.out.items ≡ l.initial.out.items ++ lines_below (λ index. latch_text (latch_of l.machine.copies l.number l.copy index)) l.index;
  short : length l.out.items ≤ length l.initial.out.items + 10 * l.index;
}
