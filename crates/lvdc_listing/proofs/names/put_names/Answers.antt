use Rattle.lvdc_listing.proofs.Steps.{more_names, all_names}
use Rattle.lvdc_listing.proofs.names.put_names.Goals as goal

pub loop-number-preserved : goal.loop-number-preserved
loop-number-preserved c =
    more_names c.args.assembly.now.items c.items-item-items.result.now c.args.assembly.now.plan.spots c.loop-number.number c.item-item.result c.spot.result c.items.result.now
    c.loop-number.out.items c.put_name.new.out.items _ c.items-item-items.ensures.items c.items-item-items.ensures.stand c.loop-number-test.true c.item-item.is c.items.ensures
    c.spot.ensures.value c.in_ok-put_name.ensures c.loop-number.invariant

pub returns : goal.returns
returns c =
    all_names c.args.assembly.now.items c.items-item-items.result.now c.args.assembly.now.plan.spots c.loop-number.number c.loop-number.out.items _ c.items-item-items.ensures.items
    c.items-item-items.ensures.stand c.loop-number-test.false c.loop-number.invariant
