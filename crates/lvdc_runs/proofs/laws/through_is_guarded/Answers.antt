use Rattle.lvdc_runs.proofs.Admitted.{through-guarded}
use Rattle.lvdc_runs.proofs.laws.through_is_guarded.Goals as goal

pub returns : goal.returns
returns c = λ o n opens good. through-guarded o (c.guarded_run.ensures o opens) n good
