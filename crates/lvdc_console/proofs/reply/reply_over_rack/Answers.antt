use Rattle.lvdc_console.specs.Rack.{rack}
use Rattle.lvdc_console.proofs.Over.{replied_over_rack, is_replied, is_unfailed, is_answer}
use Rattle.lvdc_console.proofs.reply.reply_over_rack.Goals as goal

pub returns-clause-never_fails : goal.returns-clause-never_fails
returns-clause-never_fails c =
    is_unfailed rack c.args.command c.args.bytes.now c.reply.result
    (replied_over_rack _ _ c.args.command c.args.bytes.now c.reply.result _ _ rack c.is_whole.ensures.rack c.is_whole.ensures.never_fail c.reply.ensures.reply c.reply.ensures.holds c.reply.ensures.headline)

pub returns-clause-answer : goal.returns-clause-answer
returns-clause-answer c =
    is_answer rack c.args.command c.args.bytes.now c.reply.result
    (replied_over_rack _ _ c.args.command c.args.bytes.now c.reply.result _ _ rack c.is_whole.ensures.rack c.is_whole.ensures.never_fail c.reply.ensures.reply c.reply.ensures.holds c.reply.ensures.headline)

pub returns-clause-replied : goal.returns-clause-replied
returns-clause-replied c =
    is_replied rack c.args.command c.args.bytes.now c.reply.result
    (replied_over_rack _ _ c.args.command c.args.bytes.now c.reply.result _ _ rack c.is_whole.ensures.rack c.is_whole.ensures.never_fail c.reply.ensures.reply c.reply.ensures.holds c.reply.ensures.headline)
