use Rattle.lvdc_laws_runs.proofs.Following.{keeps}
use Rattle.lvdc_laws_runs.proofs.guarded.guarded_keeps.Goals as goal

pub returns : goal.returns
returns c = λ o n m ds opens mode none h. keeps o n m ds (c.guarded_run.ensures o opens n) (c.judges_alone.ensures o opens n) mode none h
