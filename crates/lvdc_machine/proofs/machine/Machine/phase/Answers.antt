use Rattle.lvdc_machine.proofs.machine.Machine.phase.Goals as goal

pub returns : goal.returns
returns g c = rw c.outcome.ensures c.told_phase.ensures.steps
