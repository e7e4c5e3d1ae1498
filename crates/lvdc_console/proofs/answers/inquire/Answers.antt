use Rattle.std.proofs.Common.{refl}
use Rattle.std.proofs.lemmas.Result.{IfOk-weaker}
use Rattle.lvdc_reply.proofs.Statuses.{if_ok_both}
use Rattle.lvdc_console.proofs.Forms.{form_reply, form_holds}
use Rattle.lvdc_console.proofs.answers.inquire.Goals as goal

pub returns-in-Trace-clause-reply : goal.returns-in-Trace-clause-reply
returns-in-Trace-clause-reply g c = rw c.in-Trace.is c.trace_bytes.ensures.reply

pub returns-in-Trace-clause-holds : goal.returns-in-Trace-clause-holds
returns-in-Trace-clause-holds g c = rw c.in-Trace.is c.trace_bytes.ensures.plain

pub returns-in-Form-clause-reply : goal.returns-in-Form-clause-reply
returns-in-Form-clause-reply g c =
    rw c.in-Form.is
    (IfOk-weaker c.form_bytes.result _ _
    (λ reply is. form_reply (λ b. (goal.PortDevice-dyn g (b.vtable, b.value)).device_of b.value) (λ b. (goal.PortDevice-dyn g (b.vtable, b.value)).faults b.value) _ c.args.bytes.now c.args.devices.now.items _ is)
    c.form_bytes.ensures.answer)

pub returns-in-Form-clause-holds : goal.returns-in-Form-clause-holds
returns-in-Form-clause-holds g c =
    rw c.in-Form.is
    (if_ok_both c.form_bytes.result _ _ _ (λ reply is plain. form_holds c.args.bytes.now _ _ is plain) c.form_bytes.ensures.answer c.form_bytes.ensures.plain)

pub returns-in-Study-clause-reply : goal.returns-in-Study-clause-reply
returns-in-Study-clause-reply g c = rw c.in-Study.is (IfOk-weaker c.study_bytes.result _ _ (λ reply is. (refl, is)) c.study_bytes.ensures.reply)

pub returns-in-Study-clause-holds : goal.returns-in-Study-clause-holds
returns-in-Study-clause-holds g c = rw c.in-Study.is c.study_bytes.ensures.laws

pub returns-in-Trace-clause-unfailed : goal.returns-in-Trace-clause-unfailed
returns-in-Trace-clause-unfailed g c = rw c.in-Trace.is (IfOk-weaker c.trace_bytes.result _ _ (λ reply is study. absurd (cc (study))) c.trace_bytes.ensures.reply)

pub returns-in-Form-clause-unfailed : goal.returns-in-Form-clause-unfailed
returns-in-Form-clause-unfailed g c = rw c.in-Form.is (IfOk-weaker c.form_bytes.result _ _ (λ reply is study. absurd (cc (study))) c.form_bytes.ensures.answer)

pub returns-in-Study-clause-unfailed : goal.returns-in-Study-clause-unfailed
returns-in-Study-clause-unfailed g c = IfOk-weaker c.study_bytes.result _ _ (λ reply free study. free) c.study_bytes.ensures.unfailed
