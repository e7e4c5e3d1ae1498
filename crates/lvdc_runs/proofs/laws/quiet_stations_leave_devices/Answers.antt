use Rattle.lvdc_runs.proofs.Stationed.{quiet-station}
use Rattle.lvdc_runs.proofs.laws.quiet_stations_leave_devices.Goals as goal

pub returns : goal.returns
returns c = quiet-station c.quiet_runs_leave_devices.ensures c.no_faults_no_verdict.ensures c.judges_alone.ensures c.guarded_times.ensures
