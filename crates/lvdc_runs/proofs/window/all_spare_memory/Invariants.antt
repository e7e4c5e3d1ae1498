use Rattle.std.proofs.Common.{ℕ, ◌<◌, get_or}
use Rattle.lvdc_fault.specs.declared.event.Event.{Event}
use Rattle.lvdc_laws_runs.specs.Joined.{SparesMemory}
use Rattle.lvdc_runs.proofs.window.all_spare_memory.Given as goal

-- the events passed so far are not on memory
abbrev pub invariant-loop-at : goal.invariant-loop-at
invariant-loop-at l = (k : ℕ) (d : Event) → k < l.at → SparesMemory (get_or l.script k d)
