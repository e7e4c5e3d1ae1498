use Rattle.std.proofs.Common.{refl}
use Rattle.lvdc_study.proofs.Making.{run-since}
use Rattle.lvdc_study.proofs.runs.run_on.Goals as goal

pub returns-in-None-clause-since : goal.returns-in-None-clause-since
returns-in-None-clause-since g c =
    run-since _ _ c.args.devices.now.items c.run.new.devices.items c.args.machine.now c.run.new.self c.run.result c.run.ensures.answers c.run.ensures.leaves.left
    c.in-None.ensures c.args.machine.now.end refl
