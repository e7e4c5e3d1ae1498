use Rattle.std.proofs.Common.{◌≡◌, take, false}
use Rattle.std.specs.List.{list_any}
use Rattle.lvdc_debug.specs.Breaks.{is_same_spot}
use Rattle.lvdc_debug.proofs.breaks.Breaks.has.Given as goal

-- none of those so far is the place
abbrev pub invariant-loop-set : goal.invariant-loop-set
invariant-loop-set l = list_any (is_same_spot l.spot) (take l.set-index l.self) ≡ false
