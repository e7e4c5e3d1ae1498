use Rattle.lvdc_laws_runs.proofs.Quiet.{quiet-run}
use Rattle.lvdc_laws_runs.proofs.ports.quiet_runs_leave_devices.Goals as goal

pub returns : goal.returns
returns c = quiet-run c.ports_match.ensures
