use Rattle.lvdc_vote.proofs.Differences.{kept_same}
use Rattle.lvdc_vote.proofs.triple.note.Goals as goal

pub returns-in_default-clause-own : goal.returns-in_default-clause-own
returns-in_default-clause-own g c = rw c.in_default.is (kept_same (g.S.Vote.latches c.args.shadow))
