use Rattle.lvdc_place.proofs.Placed.{placed-apart, placed-as}
use Rattle.lvdc_place.proofs.laws.placed_lines.Goals as goal

pub returns-clause-apart : goal.returns-clause-apart
returns-clause-apart c = placed-apart

pub returns-clause-forms : goal.returns-clause-forms
returns-clause-forms c = placed-as
