use Rattle.std.proofs.Common.{◌≡◌}
use Rattle.lvdc_mul.specs.Unit.{after_phases}
use Rattle.lvdc_mul.proofs.unit.Unit.after.Given as goal

abbrev pub invariant-loop-made : goal.invariant-loop-made
invariant-loop-made l = l.unit ≡ after_phases l._made l.fn.self
