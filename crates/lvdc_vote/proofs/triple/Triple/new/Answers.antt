use Rattle.lvdc_vote.proofs.Differences.{sound_equal}
use Rattle.lvdc_vote.proofs.triple.Triple.new.Goals as goal

pub invariant_of-result : goal.invariant_of-result
invariant_of-result g c = sound_equal (g.M.State.Vote.latches c.args.state)
