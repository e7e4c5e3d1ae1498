use Rattle.lvdc_laws_phases.specs.Standing.{Standing}
use Rattle.lvdc_laws_voted.proofs.Run.{comes}
use Rattle.lvdc_laws_voted.proofs.guarded_run.Goals as goal

pub returns : goal.returns
returns c o ok = comes Standing o c.laws_of_a_step.ensures.steps (c.laws_of_a_step.ensures.opens o ok)
