use Rattle.std.proofs.Common.{refl}
use Rattle.lvdc_reply.proofs.Statuses.{on_err}
use Rattle.lvdc_trace.specs.Replies.{opened}
use Rattle.lvdc_trace.proofs.Answering.{saved_reply, saved_refused}
use Rattle.lvdc_trace.proofs.NoDeck.{takes-guarded}
use Rattle.lvdc_trace.proofs.Resuming.{traces-by, traces-refused}
use Rattle.lvdc_trace.proofs.saved.trace_saved_text.Goals as goal

pub returns-in_ok-reply-in-Ok-clause-reply : goal.returns-in_ok-reply-in-Ok-clause-reply
returns-in_ok-reply-in-Ok-clause-reply g c =
    saved_reply (λ b. (goal.PortDevice-dyn g (b.vtable, b.value)).device_of b.value) (λ b. (goal.PortDevice-dyn g (b.vtable, b.value)).faults b.value)
    c.args.mode c.args.window c.args.bytes.now c.args.devices.now.items c.trace_saved.new.devices.items c.requires.save c.in-Ok.saved _ c.in-Ok.ensures.saved
    c.in_ok-reply-in-Ok.ensures.traced

pub returns-in_ok-reply-in-Err-clause-reply : goal.returns-in_ok-reply-in-Err-clause-reply
returns-in_ok-reply-in-Err-clause-reply g c =
    saved_refused (λ b. (goal.PortDevice-dyn g (b.vtable, b.value)).device_of b.value) (λ b. (goal.PortDevice-dyn g (b.vtable, b.value)).faults b.value)
    c.args.mode c.args.window c.args.bytes.now c.args.devices.now.items c.args.devices.now.items c.requires.save c.in-Err.fault
    c.in_ok-reply-in-Err.reply.status c.in_ok-reply-in-Err.reply.text refl
    (c.in-Err.ensures.refusal c.in_ok-reply-in-Err.ensures.refused) c.in_ok-reply-in-Err.ensures.status c.in_ok-reply-in-Err.ensures.text

pub returns-in_err-reply-in-Ok-clause-unanswered : goal.returns-in_err-reply-in-Ok-clause-unanswered
returns-in_err-reply-in-Ok-clause-unanswered g c = on_err _ (opened c.in-Ok.saved c.requires.save c.in-Ok.ensures.saved c.in_err-reply-in-Ok.ensures.unsaved)

pub returns-in_ok-reply-in-Ok-clause-goes_on : goal.returns-in_ok-reply-in-Ok-clause-goes_on
returns-in_ok-reply-in-Ok-clause-goes_on g c =
    traces-by c.args.mode c.args.window _ _ c.in-Ok.saved _ c.in-Ok.ensures.saved c.in_ok-reply-in-Ok.ensures.goes_on

pub returns-in_ok-reply-in-Err-clause-goes_on : goal.returns-in_ok-reply-in-Err-clause-goes_on
returns-in_ok-reply-in-Err-clause-goes_on g c =
    traces-refused c.args.mode c.args.window _ _ c.in-Err.fault _ (c.in-Err.ensures.refusal c.in_ok-reply-in-Err.ensures.refused)

pub trace_saved-requires-clause-guarded : goal.trace_saved-requires-clause-guarded
trace_saved-requires-clause-guarded g c = takes-guarded c.args.mode c.args.bytes.now c.requires.save
