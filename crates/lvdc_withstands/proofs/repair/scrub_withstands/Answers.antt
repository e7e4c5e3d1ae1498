use Rattle.lvdc_withstands.proofs.Spaced.{scrubs-repair}
use Rattle.lvdc_withstands.proofs.repair.scrub_withstands.Goals as goal

pub returns : goal.returns
returns c o count every ok h = c.repair_withstands.ensures o count ok (scrubs-repair o count every h)
