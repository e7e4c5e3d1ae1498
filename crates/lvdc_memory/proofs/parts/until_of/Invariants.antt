-- The events so far change nothing up to this step.
use Rattle.std.proofs.Common.{take, All}
use Rattle.lvdc_memory.specs.Parts.{StaysUntil}
use Rattle.lvdc_memory.proofs.parts.until_of.Given as goal

abbrev pub invariant-loop-event : goal.invariant-loop-event
invariant-loop-event l = All (StaysUntil l.step l.until) (take l.event-index l.events)
