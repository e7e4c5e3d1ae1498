use Rattle.std.proofs.Common.{◌≡◌, ◌++◌, ◌+◌, ◌*◌, ◌≤◌, length, map, drop, take, All}
use Rattle.lvdc_vote.specs.Copies.{IsFullOrder}
use Rattle.lvdc_orders.specs.Orders.{orders_of}
use Rattle.lvdc_lines.specs.Noted.{lines_of}
use Rattle.lvdc_save.specs.declared.entry.Entry.TheVariants as says
use Rattle.lvdc_save.specs.Lines.{entry_line}
use Rattle.lvdc_save.proofs.print.put_orders.Given as goal

abbrev pub invariant-loop-index : goal.invariant-loop-index
invariant-loop-index l = record {
  lines :
      l.out.items ++ lines_of entry_line (map says.Order (drop l.index (orders_of l.orders)))
      ≡ l.initial.out.items ++ lines_of entry_line (map says.Order (orders_of l.orders));
  full : All (IsFullOrder 21) (take l.index (orders_of l.orders));
  short : length l.out.items ≤ length l.initial.out.items + 22 * l.index;
}
