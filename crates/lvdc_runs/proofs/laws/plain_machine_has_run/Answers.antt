use Rattle.lvdc_runs.proofs.Plainly.{ran-plainly}
use Rattle.lvdc_runs.proofs.laws.plain_machine_has_run.Goals as goal

pub returns : goal.returns
returns c = λ program times m devices. ran-plainly program times m devices
