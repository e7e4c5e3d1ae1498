use Rattle.lvdc_source.proofs.Labels.{source_of-few}
use Rattle.lvdc_source.proofs.laws.items_are_few.Goals as goal

pub returns : goal.returns
returns c = source_of-few
