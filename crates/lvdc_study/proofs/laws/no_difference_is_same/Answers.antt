use Rattle.lvdc_study.proofs.Agree.{none-same}
use Rattle.lvdc_study.proofs.laws.no_difference_is_same.Goals as goal

pub returns : goal.returns
returns c = none-same
