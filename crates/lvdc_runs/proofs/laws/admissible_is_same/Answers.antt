use Rattle.lvdc_runs.proofs.Admitted.{admitted-same}
use Rattle.lvdc_runs.proofs.laws.admissible_is_same.Goals as goal

pub returns : goal.returns
returns c = admitted-same c.guarded_run.ensures c.guarded_times.ensures c.guarded_ends.ensures.end c.guarded_ends.ensures.steps
