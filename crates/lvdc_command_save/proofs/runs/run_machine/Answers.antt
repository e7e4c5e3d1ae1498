use Rattle.std.proofs.Common.{refl, ◌∙◌, arith}
use Rattle.lvdc_machine.specs.declared.mode.Mode.TheVariants as modes
use Rattle.lvdc_command_run.proofs.Making.{has_run}
use Rattle.lvdc_command_save.specs.Replies.{supplying}
use Rattle.lvdc_reply.proofs.Statuses.{on_err}
use Rattle.lvdc_command_save.proofs.runs.run_machine.Goals as goal

pub returns-clause-run : goal.returns-clause-run
returns-clause-run g c =
    let begins = c.in_ok-machine.ensures.begins in
    let answers = c.run.ensures.answers in
    has_run _ _ (record c.args.deck { count = c.args.times }) c.args.devices.now.items c.make_ready.new.devices.items c.run.new.devices.items
    c.in_ok-machine.ensures.counts modes.Guarded c.run.new.self c.run.result c.args.times refl begins.opening
    (c.run.ensures.leaves.keeps.mode ∙ begins.fresh.mode_is) (c.run.ensures.stands _ _ 0 begins.stands) answers.answer
    (answers.cause (rw begins.fresh.end refl))

pub returns-clause-limit : goal.returns-clause-limit
returns-clause-limit g c = c.run.ensures.leaves.keeps.limit ∙ c.in_ok-machine.ensures.begins.fresh.limit_is

pub run-requires-clause-left : goal.run-requires-clause-left
run-requires-clause-left g c =
    let fresh = c.in_ok-machine.ensures.begins.fresh in
    rw (fresh.steps_are, fresh.limit_is) (omega (arith, c.requires.within))

pub returns-in_err-machine-clause-unmade : goal.returns-in_err-machine-clause-unmade
returns-in_err-machine-clause-unmade g c =
    on_err _ (supplying c.in_err-machine.ensures.part.count c.in_err-machine.ensures.part.devices (λ port left. c.in_err-machine.ensures.counts port))
