use Rattle.lvdc_laws_phases.specs.Standing.{Standing}
use Rattle.lvdc_laws_voted.proofs.Whole.{guarded-ends}
use Rattle.lvdc_laws_voted.proofs.guarded_ends.Goals as goal

pub returns-clause-end : goal.returns-clause-end
returns-clause-end c o ok k h = (guarded-ends Standing c.laws_of_a_step.ensures.steps o (c.laws_of_a_step.ensures.opens o ok) k h).0

pub returns-clause-steps : goal.returns-clause-steps
returns-clause-steps c o ok k h = (guarded-ends Standing c.laws_of_a_step.ensures.steps o (c.laws_of_a_step.ensures.opens o ok) k h).1
