use Rattle.std.proofs.Common.{◌≤◌, IfSome, IsSomeAnd, slice_get}
use Rattle.lvdc_runs.proofs.early.last_before.Given as goal

-- what was found so far stands at the step or before
abbrev pub invariant-loop-at : goal.invariant-loop-at
invariant-loop-at l = IfSome l.last (λ at. IsSomeAnd (slice_get l.stations at) (λ station. station.steps ≤ l.step))
