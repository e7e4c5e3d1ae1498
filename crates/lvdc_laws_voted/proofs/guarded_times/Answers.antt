use Rattle.lvdc_laws_phases.specs.Standing.{Standing}
use Rattle.lvdc_laws_voted.proofs.Whole.{guarded-times}
use Rattle.lvdc_laws_voted.proofs.guarded_times.Goals as goal

pub returns : goal.returns
returns c o ok = guarded-times Standing c.laws_of_a_step.ensures.steps o (c.laws_of_a_step.ensures.opens o ok)
