use Rattle.std.proofs.Common.{true}
use Rattle.lvdc_debug.specs.Replies.{debugged, begun}
use Rattle.lvdc_reply.proofs.Statuses.{on_err}
use Rattle.lvdc_debug.proofs.Replies.{refused_by, session_reply}
use Rattle.lvdc_debug.proofs.reply.debug_bytes.Goals as goal

pub returns-in_ok-reply-in-Ok-clause-reply : goal.returns-in_ok-reply-in-Ok-clause-reply
returns-in_ok-reply-in-Ok-clause-reply g c =
    session_reply (λ b. (goal.PortDevice-dyn g (b.vtable, b.value)).device_of b.value) (λ b. (goal.PortDevice-dyn g (b.vtable, b.value)).faults b.value)
    c.args.bytes.now c.args.devices.now.items c.debug_deck.new.devices.items _
    (debugged c.in-Ok.deck _ c.in-Ok.ensures.deck c.in_ok-reply-in-Ok.ensures.session)

pub returns-in_ok-reply-in-Err-clause-reply : goal.returns-in_ok-reply-in-Err-clause-reply
returns-in_ok-reply-in-Err-clause-reply g c =
    session_reply (λ b. (goal.PortDevice-dyn g (b.vtable, b.value)).device_of b.value) (λ b. (goal.PortDevice-dyn g (b.vtable, b.value)).faults b.value)
    c.args.bytes.now c.args.devices.now.items c.args.devices.now.items _
    (refused_by _ _ c.args.bytes.now c.args.devices.now.items c.in-Err.fault c.in_ok-reply-in-Err.reply.status c.in_ok-reply-in-Err.reply.text
    (c.in-Err.ensures.refusal c.in_ok-reply-in-Err.ensures.refused) c.in_ok-reply-in-Err.ensures.status c.in_ok-reply-in-Err.ensures.text)

pub returns-in_err-reply-in-Ok-clause-unanswered : goal.returns-in_err-reply-in-Ok-clause-unanswered
returns-in_err-reply-in-Ok-clause-unanswered g c = on_err _ (begun c.in-Ok.deck c.in-Ok.ensures.deck c.in_err-reply-in-Ok.ensures.unwritten)

pub returns-in_ok-reply-in-Ok-clause-room : goal.returns-in_ok-reply-in-Ok-clause-room
returns-in_ok-reply-in-Ok-clause-room g c =
    λ small. c.in_ok-reply-in-Ok.ensures.room (c.commands_are_apart.ensures _ _ true c.in-Ok.deck c.in-Ok.ensures.deck) small
