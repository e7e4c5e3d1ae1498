use Rattle.std.proofs.Common.{ap, ◌∙◌}
use Rattle.lvdc_port.specs.Supplies.{ports_of}
use Rattle.lvdc_reply.proofs.Statuses.{on_err}
use Rattle.lvdc_port.proofs.Lists.{count-same}
use Rattle.lvdc_command_run.proofs.Counts.{supplied_some, supplied_all}
use Rattle.lvdc_command_run.proofs.Making.{begins_ready}
use Rattle.lvdc_command_run.proofs.ready.make_ready.Goals as goal

pub returns-clause-begins : goal.returns-clause-begins
returns-clause-begins g c =
    begins_ready c.args.deck _ _ c.words.result.now c.into_vec.result.items c.words.ensures.words c.into_vec.ensures
    (rw c.items.ensures at c.in_ok-supply_all.ensures.ok) c.args.mode _ c.in_ok-machine.machine _ c.in_ok-machine.ensures.begins

pub returns-in_err-supply_all-clause-part : goal.returns-in_err-supply_all-clause-part
returns-in_err-supply_all-clause-part g c =
    on_err _ (supplied_some c.args.deck _ _ c.items.result.now c.items.ensures c.in_err-supply_all.ensures.err)

pub returns-in_err-machine-clause-part : goal.returns-in_err-machine-clause-part
returns-in_err-machine-clause-part g c =
    on_err _ (supplied_all c.args.deck _ _ (c.in_err-machine.ensures.devices ∙ rw c.items.ensures at c.in_ok-supply_all.ensures.ok))

pub returns-in_err-supply_all-clause-counts : goal.returns-in_err-supply_all-clause-counts
returns-in_err-supply_all-clause-counts g c =
    λ port. count-same _ _ port c.supply_all.new.devices.items c.args.devices.now.items c.in_err-supply_all.ensures.ports c.in_err-supply_all.ensures.faults

pub returns-in_err-machine-clause-counts : goal.returns-in_err-machine-clause-counts
returns-in_err-machine-clause-counts g c =
    λ port. count-same _ _ port c.new.new.devices.items c.args.devices.now.items
    (ap ports_of c.in_err-machine.ensures.devices ∙ c.in_ok-supply_all.ensures.ports) (c.in_err-machine.ensures.faults ∙ c.in_ok-supply_all.ensures.faults)

pub returns-clause-counts : goal.returns-clause-counts
returns-clause-counts g c =
    λ port. count-same _ _ port c.new.new.devices.items c.args.devices.now.items
    (ap ports_of c.in_ok-machine.ensures.devices ∙ c.in_ok-supply_all.ensures.ports) (c.in_ok-machine.ensures.faults ∙ c.in_ok-supply_all.ensures.faults)
