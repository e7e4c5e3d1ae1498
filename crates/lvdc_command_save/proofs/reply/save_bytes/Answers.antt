use Rattle.std.proofs.Common.{refl}
use Rattle.lvdc_reply.proofs.Statuses.{on_err}
use Rattle.lvdc_command_save.proofs.Answering.{save_reply, unanswered_of}
use Rattle.lvdc_command_save.proofs.reply.save_bytes.Goals as goal

pub returns-clause-reply : goal.returns-clause-reply
returns-clause-reply g c =
    save_reply (λ b. (goal.PortDevice-dyn g (b.vtable, b.value)).device_of b.value) (λ b. (goal.PortDevice-dyn g (b.vtable, b.value)).faults b.value)
    c.args.number c.args.bytes.now c.args.devices.now.items c.save_or_refuse.new.devices.items _ c.in_ok-reply.ensures.reply

pub returns-in_err-reply-clause-unanswered : goal.returns-in_err-reply-clause-unanswered
returns-in_err-reply-clause-unanswered g c = on_err _ c.in_err-reply.ensures.unanswered

pub returns-then-items-gt-LONGEST_SAVED-clause-unanswered : goal.returns-then-items-gt-LONGEST_SAVED-clause-unanswered
returns-then-items-gt-LONGEST_SAVED-clause-unanswered g c =
    unanswered_of (λ b. (goal.PortDevice-dyn g (b.vtable, b.value)).device_of b.value) (λ b. (goal.PortDevice-dyn g (b.vtable, b.value)).faults b.value)
    c.args.number c.args.bytes.now c.args.devices.now.items c.save_or_refuse.new.devices.items _ refl c.in_ok-reply.ensures.reply
