use Rattle.lvdc_service.specs.Served.{inquired, inquiry_wants_memory}
use Rattle.lvdc_service.proofs.frame.carry_out_inquiry.Goals as goal

pub returns-in-Ok : goal.returns-in-Ok
returns-in-Ok c = λ words none asked.
    inquired c.args.inquiry c.in-Ok.reply.status c.in-Ok.reply.text none asked c.requires.few c.in-Ok.ensures.inquired

pub returns-in-Err : goal.returns-in-Err
returns-in-Err c = λ words none asked. inquiry_wants_memory c.args.inquiry none asked c.requires.few
