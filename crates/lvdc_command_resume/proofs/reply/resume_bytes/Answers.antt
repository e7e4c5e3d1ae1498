use Rattle.std.proofs.Common.{arith}
use Rattle.lvdc_command_resume.specs.Replies.{begun}
use Rattle.lvdc_command_resume.proofs.Consumed.{noted-fits}
use Rattle.lvdc_command_resume.proofs.Onward.{goes-on-by, goes-on-refused, reordered-by, reordered-refused}
use Rattle.lvdc_command_resume.proofs.Replied.{saved-reply, refused-reply}
use Rattle.lvdc_reply.proofs.Statuses.{on_err}
use Rattle.lvdc_command_resume.proofs.reply.resume_bytes.Goals as goal

pub returns-in_err-reply-in-Ok-clause-unanswered : goal.returns-in_err-reply-in-Ok-clause-unanswered
returns-in_err-reply-in-Ok-clause-unanswered g c = on_err _ (begun c.in-Ok.saved c.in-Ok.ensures.saved c.in_err-reply-in-Ok.ensures.unreported)

pub returns-in_ok-reply-in-Ok-clause-reply : goal.returns-in_ok-reply-in-Ok-clause-reply
returns-in_ok-reply-in-Ok-clause-reply g c =
    saved-reply _ _ c.args.bytes.now c.args.devices.now.items _ c.in-Ok.saved _ c.in-Ok.ensures.saved c.in_ok-reply-in-Ok.ensures.run

pub returns-in_ok-reply-in-Ok-clause-room : goal.returns-in_ok-reply-in-Ok-clause-room
returns-in_ok-reply-in-Ok-clause-room g c = λ within.
    omega (arith, within, c.in_ok-reply-in-Ok.ensures.short, noted-fits _ c.args.bytes.now c.in-Ok.saved c.in-Ok.ensures.saved)

pub returns-in_ok-reply-in-Err-clause-reply : goal.returns-in_ok-reply-in-Err-clause-reply
returns-in_ok-reply-in-Err-clause-reply g c =
    refused-reply _ _ c.args.bytes.now c.args.devices.now.items c.in-Err.fault c.in_ok-reply-in-Err.reply.status c.in_ok-reply-in-Err.reply.text
    (c.in-Err.ensures.refusal c.in_ok-reply-in-Err.ensures.refused) c.in_ok-reply-in-Err.ensures.status c.in_ok-reply-in-Err.ensures.text

pub returns-in_ok-reply-in-Ok-clause-goes_on : goal.returns-in_ok-reply-in-Ok-clause-goes_on
returns-in_ok-reply-in-Ok-clause-goes_on g c =
    goes-on-by _ _ c.in-Ok.saved _ c.in-Ok.ensures.saved c.in_ok-reply-in-Ok.ensures.goes_on

pub returns-in_ok-reply-in-Err-clause-goes_on : goal.returns-in_ok-reply-in-Err-clause-goes_on
returns-in_ok-reply-in-Err-clause-goes_on g c =
    goes-on-refused _ _ c.in-Err.fault _ (c.in-Err.ensures.refusal c.in_ok-reply-in-Err.ensures.refused)

pub returns-in_ok-reply-in-Ok-clause-reordered : goal.returns-in_ok-reply-in-Ok-clause-reordered
returns-in_ok-reply-in-Ok-clause-reordered g c =
    reordered-by _ _ c.in-Ok.saved _ c.in-Ok.ensures.saved c.in_ok-reply-in-Ok.ensures.reordered

pub returns-in_ok-reply-in-Err-clause-reordered : goal.returns-in_ok-reply-in-Err-clause-reordered
returns-in_ok-reply-in-Err-clause-reordered g c =
    reordered-refused _ _ c.in-Err.fault _ (c.in-Err.ensures.refusal c.in_ok-reply-in-Err.ensures.refused)
