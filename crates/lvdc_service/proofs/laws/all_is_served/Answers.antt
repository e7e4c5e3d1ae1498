use Rattle.lvdc_service.proofs.Wholly.{wholly}
use Rattle.lvdc_service.proofs.laws.all_is_served.Goals as goal

pub returns : goal.returns
returns c = wholly
