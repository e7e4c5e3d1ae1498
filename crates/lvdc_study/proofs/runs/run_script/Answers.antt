use Rattle.std.proofs.Common.{refl, sym, ap, ◌∙◌}
use Rattle.lvdc_port.specs.Supplies.{ports_of}
use Rattle.lvdc_study.proofs.Making.{has-judged, asked-under, has-failed, since-run}
use Rattle.lvdc_study.proofs.runs.run_script.Goals as goal

pub returns-in-Some-clause-failed : goal.returns-in-Some-clause-failed
returns-in-Some-clause-failed g c =
    let answers = c.run.ensures.answers in
    has-failed _ _ c.args.devices.now.items c.new.new.devices.items c.run.new.devices.items
    (ap ports_of c.in_ok-machine.ensures.devices ∙ c.in_ok-supply_all.ensures.ports) (c.in_ok-machine.ensures.faults ∙ c.in_ok-supply_all.ensures.faults)
    c.run.new.self.end c.in-Some.port c.in-Some.ensures (rw (sym answers.answer) (answers.cause (rw c.in_ok-machine.ensures.begins.fresh.end refl)))

pub returns-in-None-clause-judged : goal.returns-in-None-clause-judged
returns-in-None-clause-judged g c =
    let begins = c.in_ok-machine.ensures.begins in
    let leaves = c.run.ensures.leaves in
    has-judged c.args.program.now _ _ _ c.in_ok-unplugs.ensures.items c.in_ok-supply_all.ensures.ok c.args.script c.args.times
    c.run.new.self _ begins.opening (leaves.keeps.mode ∙ begins.fresh.mode_is)
    (leaves.keeps.limit ∙ begins.fresh.limit_is) leaves.fit.distinct (c.run.ensures.stands _ _ 0 begins.stands) c.in-None.ensures

pub returns-in-None-clause-since : goal.returns-in-None-clause-since
returns-in-None-clause-since g c =
    let answers = c.run.ensures.answers in
    since-run _ _ c.args.devices.now.items c.new.new.devices.items c.run.new.devices.items
    (ap ports_of c.in_ok-machine.ensures.devices ∙ c.in_ok-supply_all.ensures.ports) (c.in_ok-machine.ensures.faults ∙ c.in_ok-supply_all.ensures.faults)
    c.run.new.self.end c.in-None.ensures (rw (sym answers.answer) (answers.cause (rw c.in_ok-machine.ensures.begins.fresh.end refl))) c.run.ensures.leaves.left

pub returns-in-Some-clause-fails : goal.returns-in-Some-clause-fails
returns-in-Some-clause-fails g c =
    asked-under c.args.program.now _ _ _ c.in_ok-unplugs.ensures.items c.in_ok-supply_all.ensures.ok c.args.script c.args.times
    c.run.new.self _ c.in-Some.port (c.run.ensures.stands _ _ 0 c.in_ok-machine.ensures.begins.stands) c.in-Some.ensures
