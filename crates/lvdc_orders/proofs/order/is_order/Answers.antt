use Rattle.std.proofs.Common.{rules}
use Rattle.lvdc_orders.proofs.Permutations.{tells_full}
use Rattle.lvdc_orders.proofs.order.is_order.Goals as goal

pub returns-then-are_copies-clause-full : goal.returns-then-are_copies-clause-full
returns-then-are_copies-clause-full c = tells_full c.args.copies.now c.names_once.result (search rules)

pub returns-else-are_copies-clause-full : goal.returns-else-are_copies-clause-full
returns-else-are_copies-clause-full c = tells_full c.args.copies.now c.if-copies-eq-COPIES.value (search rules)
