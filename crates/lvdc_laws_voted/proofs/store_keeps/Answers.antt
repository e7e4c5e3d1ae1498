use Rattle.lvdc_laws_voted.proofs.Cells.{stores-stored}
use Rattle.lvdc_laws_voted.proofs.store_keeps.Goals as goal

pub returns : goal.returns
returns c = stores-stored c.same_address.ensures
