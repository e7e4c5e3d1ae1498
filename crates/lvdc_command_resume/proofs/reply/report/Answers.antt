use Rattle.std.proofs.Common.{ap, ◌∙◌}
use Rattle.std.proofs.lemmas.Result.{IfOk-weaker}
use Rattle.lvdc_machine.specs.Resumed.{state_from}
use Rattle.lvdc_machine.specs.declared.mode.Mode.{Mode}
use Rattle.lvdc_report.specs.Voted.{title_of, voted_text}
use Rattle.lvdc_command_resume.proofs.reply.report.Goals as goal

pub returns-clause-text : goal.returns-clause-text
returns-clause-text c =
    IfOk-weaker c.report_end.result _ _
    (λ reply text o first n ds stands.
    text o first n ds stands ∙ ap (λ (k : Mode). voted_text (title_of k) o (state_from c.args.machine.now.end k o first n)) c.requires.mode)
    c.report_end.ensures.text

pub returns-clause-short : goal.returns-clause-short
returns-clause-short c = c.report_end.ensures.short
