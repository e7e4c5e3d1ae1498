-- The locations passed are free.
use Rattle.lvdc_place.specs.Slots.{set_of}
use Rattle.lvdc_place.proofs.Runs.{IsFreeTo}
use Rattle.lvdc_place.proofs.taken.Taken.free_run.Given as goal

abbrev pub invariant-loop-run : goal.invariant-loop-run
invariant-loop-run l = IsFreeTo (set_of l.self) l.kind l.first l.run
