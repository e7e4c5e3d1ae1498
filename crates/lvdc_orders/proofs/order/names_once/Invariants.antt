use Rattle.std.proofs.Common.{◌≡◌, drop}
use Rattle.lvdc_orders.specs.Orders.{names_once}
use Rattle.lvdc_orders.proofs.order.names_once.Given as goal

abbrev pub invariant-loop-at : goal.invariant-loop-at
invariant-loop-at l = names_once (drop l.at l.copies) ≡ names_once l.copies
