use Rattle.lvdc_laws_phases.specs.Standing.{Standing}
use Rattle.lvdc_laws_voted.proofs.Whole.{guarded-begun}
use Rattle.lvdc_laws_voted.proofs.step_begun.Goals as goal

pub returns : goal.returns
returns c o ok = guarded-begun Standing c.laws_of_a_step.ensures.steps o (c.laws_of_a_step.ensures.opens o ok)
