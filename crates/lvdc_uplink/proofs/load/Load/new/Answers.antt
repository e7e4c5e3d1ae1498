use Rattle.std.proofs.Common.{Option, None, ap, length, arith}
use Rattle.std.proofs.lemmas.List.{length-replicate}
use Rattle.std.proofs.lemmas.List.Elements.{All-replicate}
use Rattle.lvdc_uplink.specs.Frames.{Frame, FitsIfStaged}
use Rattle.lvdc_uplink.proofs.load.Load.new.Goals as goal

pub invariant_of-result : goal.invariant_of-result
invariant_of-result c = (
  omega (arith, ap length c.loop-number.invariant, length-replicate {A = Option Frame} c.loop-number._number None),
  rw c.loop-number.invariant (All-replicate FitsIfStaged c.loop-number._number None tt),
)
