use Rattle.lvdc_service.proofs.Inputs.{carried, unremembered}
use Rattle.lvdc_service.proofs.frame.carry_out.Goals as goal

pub returns-in-Ok : goal.returns-in-Ok
returns-in-Ok c = λ words given asked is.
    carried words given c.args.input.now c.args.command c.in-Ok.reply.status c.in-Ok.reply.text asked is c.requires c.in-Ok.ensures.replied

pub returns-in-Err : goal.returns-in-Err
returns-in-Err c = λ words given asked is. unremembered words given c.args.input.now c.args.command asked is c.requires
