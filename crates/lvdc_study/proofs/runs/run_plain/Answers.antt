use Rattle.std.proofs.Common.{refl, sym, ap, ◌∙◌}
use Rattle.lvdc_port.specs.Supplies.{ports_of}
use Rattle.lvdc_study.proofs.Making.{plainly-run, plainly-asked, plainly-brought, has-plainly-failed, since-plain}
use Rattle.lvdc_study.proofs.runs.run_plain.Goals as goal

pub returns-in-Some-clause-failed : goal.returns-in-Some-clause-failed
returns-in-Some-clause-failed g c =
    let answers = c.run.ensures.answers in
    has-plainly-failed _ _ c.args.devices.now.items c.new.new.devices.items c.run.new.devices.items
    (ap ports_of c.in_ok-plain.ensures.devices ∙ c.in_ok-supply_all.ensures.ports) (c.in_ok-plain.ensures.faults ∙ c.in_ok-supply_all.ensures.faults)
    c.run.new.self.end c.in-Some.port c.in-Some.ensures (rw (sym answers.answer) (answers.cause (rw c.in_ok-plain.ensures.begins.end refl)))

pub returns-in-None-clause-run : goal.returns-in-None-clause-run
returns-in-None-clause-run g c =
    let begins = c.in_ok-plain.ensures.begins in
    plainly-run c.args.program.now _ _ _ c.in_ok-unplugs.ensures.items c.in_ok-supply_all.ensures.ok c.plain_machine_has_run.ensures
    c.run.new.self _ (c.run.ensures.leaves.keeps.banks ∙ begins.banks) (c.run.ensures.stands _ 0 begins.stands) c.in-None.ensures

pub returns-in-Some-clause-fails : goal.returns-in-Some-clause-fails
returns-in-Some-clause-fails g c =
    plainly-asked c.args.program.now _ _ _ c.in_ok-unplugs.ensures.items c.in_ok-supply_all.ensures.ok
    c.run.new.self _ c.in-Some.port (c.run.ensures.stands _ 0 c.in_ok-plain.ensures.begins.stands) c.in-Some.ensures

pub returns-in-None-clause-brought : goal.returns-in-None-clause-brought
returns-in-None-clause-brought g c =
    plainly-brought c.args.program.now _ _ _ c.in_ok-unplugs.ensures.items c.in_ok-supply_all.ensures.ok
    c.run.new.self _ (c.run.ensures.stands _ 0 c.in_ok-plain.ensures.begins.stands) c.in-None.ensures

pub returns-in-None-clause-since : goal.returns-in-None-clause-since
returns-in-None-clause-since g c =
    let answers = c.run.ensures.answers in
    since-plain _ _ c.args.devices.now.items c.new.new.devices.items c.run.new.devices.items
    (ap ports_of c.in_ok-plain.ensures.devices ∙ c.in_ok-supply_all.ensures.ports) (c.in_ok-plain.ensures.faults ∙ c.in_ok-supply_all.ensures.faults)
    c.run.new.self.end c.in-None.ensures (rw (sym answers.answer) (answers.cause (rw c.in_ok-plain.ensures.begins.end refl))) c.run.ensures.leaves.left
