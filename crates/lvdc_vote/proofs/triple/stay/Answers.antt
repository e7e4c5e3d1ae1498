use Rattle.std.proofs.Common.{refl}
use Rattle.lvdc_vote.proofs.Differences.{kept_by}
use Rattle.lvdc_vote.proofs.triple.stay.Goals as goal

pub returns-then-same : goal.returns-then-same
returns-then-same g c = rw (c.in-Some.is, kept_by c.same.result _ _ c.same.ensures, c.if-same.true) refl

pub returns-else-same : goal.returns-else-same
returns-else-same g c = rw (c.in-Some.is, kept_by c.same.result _ _ c.same.ensures, c.if-same.false) refl
