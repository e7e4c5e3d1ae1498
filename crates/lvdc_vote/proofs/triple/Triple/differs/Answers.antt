use Rattle.std.proofs.Common.{◌≡◌, ◌∙◌, arith}
use Rattle.lvdc_vote.proofs.Differences.{differs_one, differs_two, differs_three, is_some-map}
use Rattle.lvdc_vote.proofs.triple.Triple.differs.Goals as goal

pub returns-in-0 : goal.returns-in-0
returns-in-0 g c =
    rw (c.is_some.ensures, ← c.self.view_is, c.in-0.is)
    (is_some-map g.M.State.Vote.latches c.self.inside.one ∙ differs_one _ c.self.invariant)

pub returns-in-1 : goal.returns-in-1
returns-in-1 g c =
    rw (c.is_some-in-1.ensures, ← c.self.view_is, c.in-1.is)
    (is_some-map g.M.State.Vote.latches c.self.inside.two ∙ differs_two _ c.self.invariant)

pub returns-in_default : goal.returns-in_default
returns-in_default g c =
    let last : c.args.copy ≡ 2 = omega arith in
    rw (c.is_some-in_default.ensures, ← c.self.view_is, last)
    (is_some-map g.M.State.Vote.latches c.self.inside.three ∙ differs_three _ c.self.invariant)
