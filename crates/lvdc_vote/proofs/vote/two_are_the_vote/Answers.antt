use Rattle.lvdc_vote.proofs.Votes.{two_vote}
use Rattle.lvdc_vote.proofs.vote.two_are_the_vote.Goals as goal

pub returns : goal.returns
returns c = two_vote
