use Rattle.lvdc_laws_voted.proofs.Cells.{untouched}
use Rattle.lvdc_laws_voted.proofs.idle_keeps.Goals as goal

pub returns : goal.returns
returns c = untouched
