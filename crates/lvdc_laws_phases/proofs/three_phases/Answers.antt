use Rattle.lvdc_laws_phases.proofs.Law.{first_law, second_law, third_law}
use Rattle.lvdc_laws_phases.proofs.three_phases.Goals as goal

pub returns-clause-first : goal.returns-clause-first
returns-clause-first c = first_law c.unit_is_right.ensures

pub returns-clause-second : goal.returns-clause-second
returns-clause-second c = second_law c.unit_is_right.ensures

pub returns-clause-third : goal.returns-clause-third
returns-clause-third c = third_law c.unit_is_right.ensures
