use Rattle.lvdc_withstands.proofs.Corollaries.{all-mask}
use Rattle.lvdc_withstands.proofs.masking.all_at_once.Goals as goal

pub returns : goal.returns
returns c o count twin copy ok h = c.form_withstands.ensures o count ok (all-mask copy o.opening.banks count twin o.script h)
