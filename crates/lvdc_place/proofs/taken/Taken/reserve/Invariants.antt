-- The location is taken in the pairs passed.
use Rattle.std.proofs.Common.{◌≡◌}
use Rattle.lvdc_place.specs.Slots.{set_of}
use Rattle.lvdc_place.proofs.Reserved.{with_reserved}
use Rattle.lvdc_place.proofs.taken.Taken.reserve.Given as goal

abbrev pub invariant-loop-pair : goal.invariant-loop-pair
invariant-loop-pair l = set_of l.self ≡ with_reserved (set_of l.initial.self) l.loc l.pair
