use Rattle.std.proofs.Common.{ap, length, subst, sym}
use Rattle.lvdc_vote.specs.Copies.{IsFullOrder}
use Rattle.lvdc_orders.proofs.Permutations.{plain_is_full}
use Rattle.lvdc_orders.proofs.order.OrderDefault.default.Goals as goal

pub invariant_of-result : goal.invariant_of-result
invariant_of-result c = (ap length c.from.ensures.0, subst (IsFullOrder 21) (sym c.from.ensures.0) plain_is_full)
