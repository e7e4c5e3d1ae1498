-- The lowest number of the events so far.
use Rattle.std.proofs.Common.{◌≤◌, take, All}
use Rattle.lvdc_memory.specs.Order.{number_of_event}
use Rattle.lvdc_memory.proofs.parts.lowest_number.Given as goal

abbrev pub invariant-loop-event : goal.invariant-loop-event
invariant-loop-event l = All (λ e. l.low ≤ number_of_event e) (take l.event-index l.events)
