use Rattle.lvdc_withstands.proofs.Repairs.{form-repairs}
use Rattle.lvdc_withstands.proofs.masking.form_masks.Goals as goal

pub returns : goal.returns
returns c o count ok h = c.repair_masks.ensures o count ok (form-repairs o count h)
