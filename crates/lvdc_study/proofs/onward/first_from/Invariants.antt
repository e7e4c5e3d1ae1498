use Rattle.std.proofs.Common.{◌≤◌, length}
use Rattle.lvdc_study.proofs.onward.first_from.Given as goal

abbrev pub invariant-loop : goal.invariant-loop
invariant-loop l = record { within : l.high ≤ length l.waypoints }
