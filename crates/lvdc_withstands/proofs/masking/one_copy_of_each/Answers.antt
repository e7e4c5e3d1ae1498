use Rattle.lvdc_withstands.proofs.Corollaries.{copies-mask}
use Rattle.lvdc_withstands.proofs.masking.one_copy_of_each.Goals as goal

pub returns : goal.returns
returns c o count copy ok h = c.form_withstands.ensures o count ok (copies-mask copy o.opening.banks count o.script h)
