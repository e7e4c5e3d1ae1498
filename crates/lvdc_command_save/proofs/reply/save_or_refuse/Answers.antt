use Rattle.lvdc_command_save.specs.Replies.{ran, begun}
use Rattle.lvdc_reply.proofs.Statuses.{on_err}
use Rattle.lvdc_command_save.proofs.Answering.{refused_by}
use Rattle.lvdc_command_save.proofs.Halved.{refused_run}
use Rattle.lvdc_command_save.proofs.reply.save_or_refuse.Goals as goal

pub returns-in_ok-reply-in-Ok-clause-reply : goal.returns-in_ok-reply-in-Ok-clause-reply
returns-in_ok-reply-in-Ok-clause-reply g c = ran c.in-Ok.deck _ c.in-Ok.ensures.deck c.in_ok-reply-in-Ok.ensures.stop

pub returns-in_ok-reply-in-Err-clause-reply : goal.returns-in_ok-reply-in-Err-clause-reply
returns-in_ok-reply-in-Err-clause-reply g c =
    refused_by _ _ c.args.times c.args.bytes.now c.args.devices.now.items c.in-Err.fault c.in_ok-reply-in-Err.reply.status c.in_ok-reply-in-Err.reply.text
    (c.in-Err.ensures.refusal c.in_ok-reply-in-Err.ensures.refused) c.in_ok-reply-in-Err.ensures.status c.in_ok-reply-in-Err.ensures.text

pub returns-in_err-reply-in-Ok-clause-unanswered : goal.returns-in_err-reply-in-Ok-clause-unanswered
returns-in_err-reply-in-Ok-clause-unanswered g c = on_err _ (begun c.in-Ok.deck c.in-Ok.ensures.deck c.in_err-reply-in-Ok.ensures.unwritten)

pub returns-in_ok-reply-in-Ok-clause-halves : goal.returns-in_ok-reply-in-Ok-clause-halves
returns-in_ok-reply-in-Ok-clause-halves g c = λ zero.
    record {
      deck = c.in-Ok.deck;
      means = c.in-Ok.ensures.deck;
      runnable = c.in-Ok.ensures.runnable;
      distinct = c.requires.distinct;
      run = c.in_ok-reply-in-Ok.ensures.saved zero;
    }

pub returns-in_ok-reply-in-Err-clause-halves : goal.returns-in_ok-reply-in-Err-clause-halves
returns-in_ok-reply-in-Err-clause-halves g c = refused_run c.in-Err.fault c.in_ok-reply-in-Err.reply.status c.in_ok-reply-in-Err.ensures.status
