use Rattle.lvdc_service.proofs.Determined.{all_due}
use Rattle.lvdc_service.proofs.laws.replies_are_due.Goals as goal

pub returns : goal.returns
returns c = all_due
