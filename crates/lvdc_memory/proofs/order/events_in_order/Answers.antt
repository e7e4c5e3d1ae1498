use Rattle.std.proofs.Common.{rules}
use Rattle.lvdc_memory.proofs.Sorted.{sorted-are_on_memory}
use Rattle.lvdc_memory.proofs.order.events_in_order.Goals as goal

pub returns : goal.returns
returns c =
    sorted-are_on_memory c.args.script.now _ _ c.requires c.in_ok-events.ensures c.in_ok-sort_by_key.ensures.permutation c.in_ok-sort_by_key.ensures.stable
    (λ a r q k. search rules)
