use Rattle.lvdc_vote.proofs.Differences.{sound_nothing_latched, view_nothing_latched}
use Rattle.lvdc_vote.proofs.triple.Triple.from_copies.Goals as goal

pub invariant_of-result : goal.invariant_of-result
invariant_of-result g c =
    let f = g.M.State.Vote.latches in
    rw (c.kept-kept_one.ensures, c.kept-kept_two.ensures, c.kept-kept_three.ensures, c.vote-voted.ensures.words)
    (sound_nothing_latched (f c.args.one) (f c.args.two) (f c.args.three))

pub returns-clause-value : goal.returns-clause-value
returns-clause-value g c =
    let f = g.M.State.Vote.latches in
    rw (c.kept-kept_one.ensures, c.kept-kept_two.ensures, c.kept-kept_three.ensures, c.vote-voted.ensures.words)
    (view_nothing_latched (f c.args.one) (f c.args.two) (f c.args.three))
