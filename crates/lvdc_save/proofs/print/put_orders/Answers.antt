use Rattle.std.proofs.Common.{arith, ◌∙◌, ◌<◌, length, All, subst}
use Rattle.std.proofs.lemmas.List.{get_or_default, take_all}
use Rattle.std.proofs.lemmas.List.Elements.{All-more}
use Rattle.lvdc_vote.specs.Copies.{IsFullOrder}
use Rattle.lvdc_orders.specs.Orders.{orders_of, plain_order}
use Rattle.lvdc_save.specs.declared.entry.Entry.TheVariants as says
use Rattle.lvdc_save.proofs.Texts.{entries_more, entries_done}
use Rattle.lvdc_save.proofs.print.put_orders.Goals as goal

pub loop-index-preserved : goal.loop-index-preserved
loop-index-preserved c =
    let within : c.loop-index.index < length (orders_of c.args.orders.now) = omega (arith, c.loop-index-test.true, c.count-index-end.ensures.value) in
    let is = c.order.ensures ∙ get_or_default (orders_of c.args.orders.now) c.loop-index.index plain_order c.order.result.now within in
    record {
      lines = entries_more says.Order c.loop-index.index (orders_of c.args.orders.now) c.order.result.now c.loop-index.out.items c.put_order.new.out.items _ within
          is c.in_ok-put_order.ensures.line c.loop-index.invariant.lines;
      full = All-more (IsFullOrder 21) (orders_of c.args.orders.now) c.loop-index.index c.order.result.now within c.loop-index.invariant.full
          (subst (IsFullOrder 21) is c.in_ok-put_order.ensures.full);
      short = omega (arith, c.in_ok-put_order.ensures.short, c.loop-index.invariant.short);
    }

pub returns-clause-lines : goal.returns-clause-lines
returns-clause-lines c =
    entries_done says.Order c.loop-index.index (orders_of c.args.orders.now) c.loop-index.out.items _
    (omega (arith, c.loop-index-test.false, c.count-index-end.ensures.value)) c.loop-index.invariant.lines

pub returns-clause-short : goal.returns-clause-short
returns-clause-short c = omega (arith, c.loop-index.invariant.short, c.loop-index.auto.index-end, c.count-index-end.ensures.most)

pub returns-clause-full : goal.returns-clause-full
returns-clause-full c =
    subst (All (IsFullOrder 21)) (take_all c.loop-index.index (orders_of c.args.orders.now) (omega (arith, c.loop-index-test.false, c.count-index-end.ensures.value)))
    c.loop-index.invariant.full
