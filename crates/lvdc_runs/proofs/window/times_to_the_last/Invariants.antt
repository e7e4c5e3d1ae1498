use Rattle.std.proofs.Common.{ℕ, ◌*◌, ◌<◌, get_or}
use Rattle.lvdc_fault.specs.declared.event.Event.{Event}
use Rattle.lvdc_fault.specs.Script.{span_of}
use Rattle.lvdc_runs.proofs.window.times_to_the_last.Given as goal

-- the events passed so far have ended before that
abbrev pub invariant-loop-at : goal.invariant-loop-at
invariant-loop-at l = (k : ℕ) (d : Event) → k < l.at → (span_of (get_or l.script k d)).last < 3 * l.times
