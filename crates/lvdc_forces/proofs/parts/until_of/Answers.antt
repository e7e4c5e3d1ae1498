use Rattle.std.proofs.Common.{arith}
use Rattle.lvdc_forces.proofs.PartLaws.{stays_more}
use Rattle.lvdc_forces.proofs.parts.until_of.Goals as goal

pub loop-position-preserved : goal.loop-position-preserved
loop-position-preserved c =
    let so_far = c.loop-position.invariant in
    record {
      from = omega (arith, so_far.from);
      later = omega (arith, so_far.later, c.change_of.ensures.later, c.min-until.ensures);
      stays = stays_more c.args.script.now c.args.from c.loop-position.position c.args.step c.loop-position.until c.change_of.result c.min-until.result c.event.result.now so_far.from
          c.event.ensures c.min-until.ensures so_far.stays c.change_of.ensures.stays;
    }
