use Rattle.std.proofs.Common.{refl, ap, ◌∙◌}
use Rattle.lvdc_port.specs.Supplies.{ports_of}
use Rattle.lvdc_reply.proofs.Statuses.{on_err}
use Rattle.lvdc_port.proofs.Lists.{count-same}
use Rattle.lvdc_command_run.proofs.Counts.{unmade, supplied_some, supplied_all}
use Rattle.lvdc_command_run.proofs.Making.{has_run_plainly}
use Rattle.lvdc_command_run.proofs.runs.run_plain_machine.Goals as goal

pub returns-clause-run : goal.returns-clause-run
returns-clause-run g c =
    has_run_plainly _ _ c.args.deck c.args.devices.now.items c.new.new.devices.items c.run.new.devices.items
    c.words.result.now c.into_vec.result.items _ c.words.ensures.words c.into_vec.ensures (rw c.items.ensures at c.in_ok-supply_all.ensures.ok)
    (λ port. count-same _ _ port c.new.new.devices.items c.args.devices.now.items
    (ap ports_of c.in_ok-machine.ensures.devices ∙ c.in_ok-supply_all.ensures.ports) (c.in_ok-machine.ensures.faults ∙ c.in_ok-supply_all.ensures.faults))
    c.run.new.self c.run.result (c.run.ensures.stands _ 0 c.in_ok-machine.ensures.begins.stands) c.run.ensures.answers.answer
    (c.run.ensures.answers.cause (rw c.in_ok-machine.ensures.begins.end refl))

pub returns-in_err-supply_all-clause-unmade : goal.returns-in_err-supply_all-clause-unmade
returns-in_err-supply_all-clause-unmade g c =
    on_err _ (unmade _ _ c.args.deck c.args.devices.now.items c.supply_all.new.devices.items (supplied_some c.args.deck _ _ c.items.result.now c.items.ensures c.in_err-supply_all.ensures.err)
    (λ port. count-same _ _ port c.supply_all.new.devices.items c.args.devices.now.items c.in_err-supply_all.ensures.ports c.in_err-supply_all.ensures.faults))

pub returns-in_err-machine-clause-unmade : goal.returns-in_err-machine-clause-unmade
returns-in_err-machine-clause-unmade g c =
    on_err _ (unmade _ _ c.args.deck c.args.devices.now.items c.new.new.devices.items
    (supplied_all c.args.deck _ _ (c.in_err-machine.ensures.devices ∙ (rw c.items.ensures at c.in_ok-supply_all.ensures.ok)))
    (λ port. count-same _ _ port c.new.new.devices.items c.args.devices.now.items
    (ap ports_of c.in_err-machine.ensures.devices ∙ c.in_ok-supply_all.ensures.ports) (c.in_err-machine.ensures.faults ∙ c.in_ok-supply_all.ensures.faults)))
