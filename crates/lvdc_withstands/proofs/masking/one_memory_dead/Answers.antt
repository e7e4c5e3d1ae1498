use Rattle.lvdc_withstands.proofs.Corollaries.{dead-mask}
use Rattle.lvdc_withstands.proofs.masking.one_memory_dead.Goals as goal

pub returns : goal.returns
returns c o count twin ok h = c.form_withstands.ensures o count ok (dead-mask o.opening.banks count twin o.script h)
