-- What the events so far stick.
use Rattle.std.proofs.Common.{◌≡◌, take}
use Rattle.lvdc_twin.specs.Store.{nothing}
use Rattle.lvdc_fault.specs.Damage.{stuck_after}
use Rattle.lvdc_memory.proofs.parts.stuck_in.Given as goal

abbrev pub invariant-loop-event : goal.invariant-loop-event
invariant-loop-event l = l.stuck ≡ stuck_after l.step l.twin l.place (take l.event-index l.events) nothing
