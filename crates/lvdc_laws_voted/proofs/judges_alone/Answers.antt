use Rattle.lvdc_laws_phases.specs.Standing.{Standing}
use Rattle.lvdc_laws_voted.proofs.Whole.{alone-guarded}
use Rattle.lvdc_laws_voted.proofs.judges_alone.Goals as goal

pub returns : goal.returns
returns c o ok = alone-guarded Standing c.laws_of_a_step.ensures.steps o (c.laws_of_a_step.ensures.opens o ok)
