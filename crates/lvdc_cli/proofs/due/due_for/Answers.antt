use Rattle.std.proofs.Common.{Err, ap, refl, ◌∙◌}
use Rattle.lvdc_cli.specs.Words.{reads}
use Rattle.lvdc_cli.specs.Top.{read_fault, too_long, wants_memory, in_reading}
use Rattle.lvdc_cli.proofs.Dues.{some_command, at_most_asked, count_asked, replied_over, wanting_over}
use Rattle.lvdc_cli.proofs.due.due_for.Goals as goal

pub returns-in-Ok-reply-clause-due : goal.returns-in-Ok-reply-clause-due
returns-in-Ok-reply-clause-due g c = λ words before after asked.
    replied_over c.args.command c.in-Ok.bytes.items c.as_slice.result.now _ asked (c.in-Ok.ensures.quiet (λ e. cc)) c.in-Ok.ensures.read
    c.as_slice.ensures.value c.in-Ok-reply.ensures.reply c.in-Ok-reply.ensures.holds

pub returns-in-Ok-clause-due : goal.returns-in-Ok-clause-due
returns-in-Ok-clause-due g c = λ words before after asked.
    wanting_over c.args.command c.in-Ok.bytes.items c.as_slice.result.now asked (c.in-Ok.ensures.quiet (λ e. cc)) c.in-Ok.ensures.read
    c.as_slice.ensures.value c.in-Err.ensures.unanswered

pub returns-in-Err-ReadFault-clause-due : goal.returns-in-Err-ReadFault-clause-due
returns-in-Err-ReadFault-clause-due g c = λ words before after asked.
    let h = c.in-Err-ReadFault.ensures.read_fault (ap Err c.in-Err-ReadFault.field-0-is) in
    read_fault (ap reads asked ∙ h.0) h.1 (at_most_asked _ _ words c.args.command asked h.2) refl

pub returns-in-Err-TooLong-clause-due : goal.returns-in-Err-TooLong-clause-due
returns-in-Err-TooLong-clause-due g c = λ words before after asked.
    let h = c.in-Err-TooLong.ensures.too_long (ap Err c.in-Err-TooLong.field-0-is) in
    too_long (ap reads asked ∙ h.0) (c.in-Err-TooLong.ensures.quiet (λ e. cc)) (count_asked _ _ words c.args.command asked h.1) refl

pub returns-clause-due : goal.returns-clause-due
returns-clause-due g c = λ words before after asked.
    wants_memory (some_command _ c.args.command asked) (c.in-Err-NoMemory.ensures.quiet (λ e. cc))
    (at_most_asked _ _ words c.args.command asked (c.in-Err-NoMemory.ensures.no_memory (ap Err c.in-Err-NoMemory.field-0-is))) (in_reading refl)
