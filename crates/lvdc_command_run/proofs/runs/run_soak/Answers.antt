use Rattle.std.proofs.Common.{◌∙◌}
use Rattle.lvdc_command_run.specs.Replies.{ran}
use Rattle.lvdc_reply.proofs.Statuses.{on_err}
use Rattle.lvdc_command_run.proofs.VotedRuns.{ran_soak, soak_unreported}
use Rattle.lvdc_command_run.proofs.Jobs.{soak_untouched, soak_begun}
use Rattle.lvdc_command_run.proofs.runs.run_soak.Goals as goal

pub returns-clause-reply : goal.returns-clause-reply
returns-clause-reply g c = λ bytes.
    let h = c.in_ok-machine.ensures.run in
    ran c.in_ok-deck.deck _ c.in_ok-deck.ensures.deck
    (ran_soak _ _ c.in_ok-deck.deck _ _ c.in_ok-machine.machine c.outcome-end.result c.args.number
    c.end_status.result c.from_vec.result h c.outcome-end.ensures
    c.end_status.ensures (c.from_vec.ensures ∙ c.in_ok-text.ensures.text _ _ _ h.run.stands))

pub returns-in_err-deck-clause-unanswered : goal.returns-in_err-deck-clause-unanswered
returns-in_err-deck-clause-unanswered g c = on_err _ (soak_untouched _ _ c.args.number c.args.devices.now.items)

pub returns-in_err-machine-clause-unanswered : goal.returns-in_err-machine-clause-unanswered
returns-in_err-machine-clause-unanswered g c =
    on_err _ (soak_begun _ _ c.args.number c.in_ok-deck.deck _ _ c.in_ok-deck.ensures.deck (c.in_err-machine.ensures.unmade _))

pub returns-in_err-text-clause-unanswered : goal.returns-in_err-text-clause-unanswered
returns-in_err-text-clause-unanswered g c =
    on_err _ (soak_begun _ _ c.args.number c.in_ok-deck.deck _ _ c.in_ok-deck.ensures.deck
    (soak_unreported _ _ c.in_ok-deck.deck _ _ _ c.args.number c.in_ok-machine.ensures.run))
