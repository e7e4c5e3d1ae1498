use Rattle.std.proofs.Common.{refl}
use Rattle.std.proofs.lemmas.Result.{IfOk-weaker}
use Rattle.lvdc_machine.specs.View.{answer_of_end}
use Rattle.lvdc_reply.proofs.Statuses.{on_err, if_ok_both}
use Rattle.lvdc_command_run.proofs.VotedRuns.{ran_guarded, guarded_unreported}
use Rattle.lvdc_command_run.proofs.runs.run_guarded.Goals as goal

pub returns-clause-run : goal.returns-clause-run
returns-clause-run g c =
    let h = c.in_ok-machine.ensures.run in
    if_ok_both c.report_end.result _ _ _
    (λ reply status text.
    ran_guarded _ _ _ c.args.deck.count _ _ c.in_ok-machine.machine (answer_of_end c.in_ok-machine.machine.end)
    reply.status reply.text h refl status (text _ _ _ _ h.run.stands))
    c.report_end.ensures.status c.report_end.ensures.text

pub returns-clause-unreported : goal.returns-clause-unreported
returns-clause-unreported g c = on_err c.report_end.result (guarded_unreported _ _ c.args.deck _ _ _ c.in_ok-machine.ensures.run)

pub returns-clause-room : goal.returns-clause-room
returns-clause-room g c =
    IfOk-weaker c.report_end.result _ _ (λ reply room. room _ _ _ c.in_ok-machine.ensures.run.run.stands) c.report_end.ensures.room

pub returns-in_err-machine-clause-unreported : goal.returns-in_err-machine-clause-unreported
returns-in_err-machine-clause-unreported g c = on_err _ (c.in_err-machine.ensures.unmade _)
