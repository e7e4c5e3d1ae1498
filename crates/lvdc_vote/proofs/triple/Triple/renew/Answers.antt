use Rattle.std.proofs.Common.{refl}
use Rattle.lvdc_vote.proofs.Votes.{majority_of-first}
use Rattle.lvdc_vote.proofs.Differences.{none_differs, sound_renewed}
use Rattle.lvdc_vote.proofs.triple.Triple.renew.Goals as goal

pub invariant_of-self : goal.invariant_of-self
invariant_of-self g c = sound_renewed _ (g.M.State.Vote.latches c.args.state) c.self.invariant

pub returns-clause-vote : goal.returns-clause-vote
returns-clause-vote g c = majority_of-first (g.M.State.Vote.latches c.args.state) (g.M.State.Vote.latches c.args.state) refl

pub returns-clause-agree : goal.returns-clause-agree
returns-clause-agree g c copy = none_differs (g.M.State.Vote.latches c.args.state) copy
