use Rattle.lvdc_withstands.proofs.Corollaries.{bits-mask}
use Rattle.lvdc_withstands.proofs.masking.one_bit_each.Goals as goal

pub returns : goal.returns
returns c o count twin ok h = c.form_withstands.ensures o count ok (bits-mask o.opening.banks count twin o.script h)
