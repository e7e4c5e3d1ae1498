-- None of the parts so far kills.
use Rattle.std.proofs.Common.{◌≡◌, ◌*◌, false, take}
use Rattle.lvdc_fault.specs.Damage.{is_dead}
use Rattle.lvdc_memory.proofs.parts.is_dead_now.Given as goal

abbrev pub invariant-loop-number : goal.invariant-loop-number
invariant-loop-number l = is_dead (take (256 * l.number) l.events) l.step l.twin l.pair ≡ false
