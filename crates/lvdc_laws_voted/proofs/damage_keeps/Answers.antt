use Rattle.lvdc_laws_voted.proofs.Cells.{damages-stored}
use Rattle.lvdc_laws_voted.proofs.damage_keeps.Goals as goal

pub returns : goal.returns
returns c = damages-stored c.same_address.ensures
