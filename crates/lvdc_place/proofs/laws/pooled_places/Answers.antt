use Rattle.lvdc_place.proofs.Placed.{pool-free, pool-sector}
use Rattle.lvdc_place.proofs.laws.pooled_places.Goals as goal

pub returns-clause-free : goal.returns-clause-free
returns-clause-free c = pool-free

pub returns-clause-sector : goal.returns-clause-sector
returns-clause-sector c = pool-sector
