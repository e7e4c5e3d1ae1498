use Rattle.lvdc_vote.proofs.Harms.{harmed_is}
use Rattle.lvdc_vote.proofs.harm.harm_suffices.Goals as goal

pub returns : goal.returns
returns c = harmed_is
