-- What the parts so far stick.
use Rattle.std.proofs.Common.{◌≡◌, ◌*◌, take}
use Rattle.lvdc_twin.specs.Store.{nothing}
use Rattle.lvdc_fault.specs.Damage.{stuck_after}
use Rattle.lvdc_memory.proofs.parts.stuck_now.Given as goal

abbrev pub invariant-loop-number : goal.invariant-loop-number
invariant-loop-number l = l.stuck ≡ stuck_after l.step l.twin l.place (take (256 * l.number) l.events) nothing
