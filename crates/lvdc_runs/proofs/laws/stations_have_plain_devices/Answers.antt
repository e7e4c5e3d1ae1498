use Rattle.lvdc_runs.proofs.Stationed.{plain-devices}
use Rattle.lvdc_runs.proofs.laws.stations_have_plain_devices.Goals as goal

pub returns : goal.returns
returns c = plain-devices c.no_faults_no_verdict.ensures c.judges_alone.ensures c.guarded_times.ensures
