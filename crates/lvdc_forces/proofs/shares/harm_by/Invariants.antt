use Rattle.std.proofs.Common.{◌≡◌}
use Rattle.lvdc_forces.proofs.Joins.{filled}
use Rattle.lvdc_forces.proofs.shares.harm_by.Given as goal

-- each latch passed so far has its patch
abbrev pub invariant-loop-index : goal.invariant-loop-index
invariant-loop-index l = l.harm ≡ record { lags = l.lags; patches = filled l.patches l.index }
