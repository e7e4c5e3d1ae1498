use Rattle.std.proofs.Common.{refl, ◌∙◌, arith}
use Rattle.lvdc_command_resume.proofs.Went.{has-run}
use Rattle.lvdc_command_resume.proofs.run.run_saved.Goals as goal

pub run-requires-clause-left : goal.run-requires-clause-left
run-requires-clause-left g c =
    let fresh = c.in_ok-machine.ensures.fresh in
    rw (fresh.steps_are, fresh.limit_is) (omega (arith, c.requires.runnable.steps, c.requires.runnable.whole.times))

pub returns-clause-run : goal.returns-clause-run
returns-clause-run g c =
    let opened = c.in_ok-machine.ensures in
    let answers = c.run.ensures.answers in
    has-run _ _ c.args.saved c.args.devices.now.items c.open_saved.new.devices.items c.run.new.devices.items c.in_ok-machine.field-0.machine c.run.new.self
    c.run.result c.requires.runnable (c.run.ensures.leaves.keeps.mode ∙ opened.fresh.mode_is) opened.stands c.run.ensures.stands answers.answer opened.since
    c.run.ensures.leaves.left (answers.cause (rw opened.fresh.end refl))
