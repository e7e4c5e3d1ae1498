use Rattle.std.proofs.Common.{◌*◌, ◌≤◌, IfSome, IsSomeAnd, slice_get, length}
use Rattle.lvdc_laws_runs.specs.Early.{AllBeginFrom}
use Rattle.lvdc_study.proofs.waypoint.waypoint_before.Given as goal

-- the script may begin at what was found so far
abbrev pub invariant-loop : goal.invariant-loop
invariant-loop l = record {
  within : l.high ≤ length l.waypoints;
  begins : IfSome l.found (λ at. IsSomeAnd (slice_get l.waypoints at) (λ w. AllBeginFrom w.snapshot.steps l.script));
  ahead : IfSome l.found (λ at. IsSomeAnd (slice_get l.waypoints at) (λ w. w.snapshot.steps ≤ 3 * l.times));
}
