use Rattle.std.proofs.Common.{◌≡◌, take}
use Rattle.lvdc_memory.specs.OnMemory.{on_memory}
use Rattle.lvdc_memory.proofs.order.events_on_memory.Given as goal

-- those of the events passed so far
abbrev pub invariant-loop-at : goal.invariant-loop-at
invariant-loop-at l = l.events.items ≡ on_memory (take l.at l.script)
