use Rattle.std.proofs.Common.{refl, ◌∙◌}
use Rattle.lvdc_reply.proofs.Statuses.{on_err}
use Rattle.lvdc_command_run.proofs.Counts.{unmade}
use Rattle.lvdc_command_run.proofs.Making.{has_run}
use Rattle.lvdc_command_run.proofs.runs.run_machine.Goals as goal

pub returns-clause-run : goal.returns-clause-run
returns-clause-run g c =
    let begins = c.in_ok-machine.ensures.begins in
    let answers = c.run.ensures.answers in
    has_run _ _ c.args.deck c.args.devices.now.items c.make_ready.new.devices.items c.run.new.devices.items c.in_ok-machine.ensures.counts
    c.args.mode c.run.new.self c.run.result _ (c.limit-count.ensures ∙ begins.fresh.limit_is) begins.opening
    (c.run.ensures.leaves.keeps.mode ∙ begins.fresh.mode_is)
    (c.run.ensures.stands _ _ 0 begins.stands) answers.answer (answers.cause (rw begins.fresh.end refl))

pub returns-in_err-machine-clause-unmade : goal.returns-in_err-machine-clause-unmade
returns-in_err-machine-clause-unmade g c =
    on_err _ (unmade _ _ c.args.deck c.args.devices.now.items c.make_ready.new.devices.items c.in_err-machine.ensures.part c.in_err-machine.ensures.counts)
