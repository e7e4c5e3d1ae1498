use Rattle.std.proofs.Common.{refl}
use Rattle.lvdc_place.proofs.Starts.{starts-none}
use Rattle.lvdc_place.proofs.search.Search.new.Goals as goal

pub invariant_of-result : goal.invariant_of-result
invariant_of-result c = starts-none 257 c.args.taken _ refl refl
