use Rattle.lvdc_laws_phases.proofs.UnitLands.{right}
use Rattle.lvdc_laws_phases.proofs.unit_is_right.Goals as goal

pub returns : goal.returns
returns c = right c.multiply_lands.ensures.lands c.multiply_lands.ensures.kind c.divide_lands.ensures.lands c.divide_lands.ensures.kind
