use Rattle.lvdc_asm.proofs.Counts.{assembly-small}
use Rattle.lvdc_asm.proofs.laws.assembly_is_small.Goals as goal

pub returns : goal.returns
returns c = λ lines assembled e. assembly-small lines assembled (c.items_are_few.ensures lines) e
