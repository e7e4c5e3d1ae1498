-- At no number passed is the block free.
use Rattle.std.proofs.Common.{◌-◌, ◌≤◌}
use Rattle.lvdc_place.specs.Slots.{set_of, is_free_at}
use Rattle.lvdc_place.proofs.Least.{NonePasses}
use Rattle.lvdc_place.proofs.taken.Taken.least_free.Given as goal

abbrev pub invariant-loop-number : goal.invariant-loop-number
invariant-loop-number l = record {
  low : l.from ≤ l.number;
  none : NonePasses (is_free_at (set_of l.self) l.kind l.size) l.from l.number;
}

abbrev pub decreases-loop-number : goal.decreases-loop-number
decreases-loop-number l = l.end - l.number
