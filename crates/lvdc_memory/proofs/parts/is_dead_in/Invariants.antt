-- None of the events so far kills.
use Rattle.std.proofs.Common.{◌≡◌, false, take}
use Rattle.lvdc_fault.specs.Damage.{is_dead}
use Rattle.lvdc_memory.proofs.parts.is_dead_in.Given as goal

abbrev pub invariant-loop-event : goal.invariant-loop-event
invariant-loop-event l = is_dead (take l.event-index l.events) l.step l.twin l.pair ≡ false
