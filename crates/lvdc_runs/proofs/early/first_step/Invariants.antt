use Rattle.std.proofs.Common.{ℕ, ◌<◌, ◌≤◌, get_or}
use Rattle.lvdc_fault.specs.declared.event.Event.{Event}
use Rattle.lvdc_fault.specs.Script.{first_of}
use Rattle.lvdc_runs.proofs.early.first_step.Given as goal

-- the events passed so far begin there or later
abbrev pub invariant-loop-at : goal.invariant-loop-at
invariant-loop-at l = (k : ℕ) (d : Event) → k < l.at → l.first ≤ first_of (get_or l.script k d)
