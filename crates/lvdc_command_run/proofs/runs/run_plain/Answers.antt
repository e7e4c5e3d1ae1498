use Rattle.std.proofs.Common.{◌∙◌}
use Rattle.lvdc_reply.proofs.Statuses.{on_err}
use Rattle.lvdc_command_run.proofs.PlainRuns.{ran_plainly, plain_unreported}
use Rattle.lvdc_command_run.proofs.runs.run_plain.Goals as goal

pub returns-clause-run : goal.returns-clause-run
returns-clause-run g c =
    ran_plainly _ _ _ c.args.deck.count _ _ c.in_ok-machine.machine c.in_ok-machine.ensures.run c.outcome-end.result
    c.plain_status.result c.from_vec.result c.outcome-end.ensures c.plain_status.ensures
    (λ p shows. c.from_vec.ensures ∙ c.in_ok-text.ensures.text p shows)

pub returns-in_err-text-clause-unreported : goal.returns-in_err-text-clause-unreported
returns-in_err-text-clause-unreported g c = on_err _ (plain_unreported _ _ c.args.deck _ _ _ c.in_ok-machine.ensures.run)

pub returns-in_err-machine-clause-unreported : goal.returns-in_err-machine-clause-unreported
returns-in_err-machine-clause-unreported g c = on_err _ (c.in_err-machine.ensures.unmade _)
