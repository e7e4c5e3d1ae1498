use Rattle.lvdc_laws_runs.proofs.Following.{follows}
use Rattle.lvdc_laws_runs.proofs.guarded.guarded_follows.Goals as goal

pub returns : goal.returns
returns c = λ o n m ds opens mode h.
    follows o n m ds (c.guarded_run.ensures o opens) (c.judges_alone.ensures o opens) (c.guarded_times.ensures o opens) (c.step_begun.ensures o opens) mode h
