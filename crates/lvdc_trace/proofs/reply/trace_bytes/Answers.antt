use Rattle.std.proofs.Common.{sym, ◌∙◌}
use Rattle.std.proofs.lemmas.Result.{IfOk-weaker}
use Rattle.lvdc_trace.proofs.NoDeck.{no-deck}
use Rattle.lvdc_trace.proofs.reply.trace_bytes.Goals as goal

pub returns-then-saved-clause-plain : goal.returns-then-saved-clause-plain
returns-then-saved-clause-plain g c =
    IfOk-weaker c.trace_saved_text.result _ _
    (λ reply is deck means. absurd (no-deck c.args.mode c.args.bytes.now _ _ (sym c.in_ok-saved.ensures ∙ c.if-saved.true) deck means)) c.trace_saved_text.ensures.reply
