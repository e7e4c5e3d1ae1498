-- A part that isn't stale stays right, and none of its events changes what is in force.
use Rattle.lvdc_memory.proofs.PartLaws.{right_still, none_new_still}
use Rattle.lvdc_memory.proofs.parts.Part.renew.Goals as goal

pub returns-else-is_stale-clause-right : goal.returns-else-is_stale-clause-right
returns-else-is_stale-clause-right c before =
    right_still c.args.events.now c.args.last c.args.step c.args.self.now (c.is_stale.ensures.last c.if-is_stale.false) (c.is_stale.ensures.until c.if-is_stale.false) before

pub returns-else-is_stale-clause-new : goal.returns-else-is_stale-clause-new
returns-else-is_stale-clause-new c other before =
    none_new_still c.args.events.now c.args.last c.args.step c.args.self.now (c.is_stale.ensures.last c.if-is_stale.false) (c.is_stale.ensures.until c.if-is_stale.false) before
