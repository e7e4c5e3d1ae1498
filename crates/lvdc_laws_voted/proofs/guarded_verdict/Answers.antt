use Rattle.lvdc_laws_phases.specs.Standing.{Standing}
use Rattle.lvdc_laws_voted.proofs.Whole.{guarded-verdict, guarded-verdict_only}
use Rattle.lvdc_laws_voted.proofs.guarded_verdict.Goals as goal

pub returns-clause-ends : goal.returns-clause-ends
returns-clause-ends c o ok = guarded-verdict Standing c.laws_of_a_step.ensures.steps o (c.laws_of_a_step.ensures.opens o ok)

pub returns-clause-only : goal.returns-clause-only
returns-clause-only c o ok = guarded-verdict_only Standing c.laws_of_a_step.ensures.steps o (c.laws_of_a_step.ensures.opens o ok)
