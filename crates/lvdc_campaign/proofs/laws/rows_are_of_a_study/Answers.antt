use Rattle.lvdc_campaign.proofs.Short.{rows-short}
use Rattle.lvdc_campaign.proofs.laws.rows_are_of_a_study.Goals as goal

pub returns : goal.returns
returns c = rows-short c.no_difference_is_same.ensures
