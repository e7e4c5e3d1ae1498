use Rattle.lvdc_laws_phases.specs.Standing.{Standing}
use Rattle.lvdc_laws_voted.proofs.Run.{ends-at}
use Rattle.lvdc_laws_voted.proofs.Known.{guarded-known, known-begun, known-bad, guarded-intended, bad-intended}
use Rattle.lvdc_laws_voted.proofs.words_known.Goals as goal

pub returns-clause-made : goal.returns-clause-made
returns-clause-made c o ok = guarded-known Standing c.laws_of_a_step.ensures.steps o (c.laws_of_a_step.ensures.opens o ok)

pub returns-clause-bad : goal.returns-clause-bad
returns-clause-bad c o ok n good bad at bank =
    let law = c.laws_of_a_step.ensures in
    known-bad law.steps.holders o n at bank (ends-at Standing o law.steps (law.opens o ok) n good bad)

pub returns-clause-begun : goal.returns-clause-begun
returns-clause-begun c = known-begun c.laws_of_a_step.ensures.steps.holders

pub returns-clause-intended : goal.returns-clause-intended
returns-clause-intended c o ok = guarded-intended Standing c.laws_of_a_step.ensures.steps o (c.laws_of_a_step.ensures.opens o ok)

pub returns-clause-intended_bad : goal.returns-clause-intended_bad
returns-clause-intended_bad c o ok n good bad =
    let law = c.laws_of_a_step.ensures in
    bad-intended o n (ends-at Standing o law.steps (law.opens o ok) n good bad)
