use Rattle.std.proofs.Common.{refl}
use Rattle.lvdc_place.proofs.Tables.{set_of-none}
use Rattle.lvdc_place.proofs.taken.Taken.nothing.Goals as goal

pub returns : goal.returns
returns c = set_of-none 32768 c.in_ok-bits.bits.items refl (c.in_ok-bits.ensures.items_if_clones_equal (λ y same. same))
