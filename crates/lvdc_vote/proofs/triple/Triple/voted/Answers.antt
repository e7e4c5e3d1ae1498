use Rattle.std.proofs.Common.{sym, ◌∙◌, Option}
use Rattle.lvdc_vote.proofs.Votes.{two_vote, vote_bits}
use Rattle.lvdc_vote.proofs.Differences.{sized_own}
use Rattle.lvdc_vote.proofs.triple.Triple.voted.Goals as goal

pub returns-clause-two : goal.returns-clause-two
returns-clause-two g c =
    let f = g.M.State.Vote.latches in
    let n = g.M.State.Vote.LATCHES in
    let count = g.met.M.State.Vote.counted in
    let voted = c.self.inside.voted in
    rw (← c.self.view_is)
    (λ state two.
    g.met.M.State.Vote.exact c.copied.result state
    (c.copied.ensures ∙ c.self.invariant.vote
    ∙ two_vote _ _ _ (f state)
    (sized_own f n count c.self.inside.one voted ∙ sym (count state))
    (sized_own f n count c.self.inside.two voted ∙ sym (count state))
    (sized_own f n count c.self.inside.three voted ∙ sym (count state))
    two))

pub returns-clause-bits : goal.returns-clause-bits
returns-clause-bits g c =
    let f = g.M.State.Vote.latches in
    let n = g.M.State.Vote.LATCHES in
    let count = g.met.M.State.Vote.counted in
    let own = c.self.inside in
    let size = λ (o : Option g.row.M-State.Denot). sized_own f n count o own.voted in
    rw (← c.self.view_is, c.copied.ensures ∙ c.self.invariant.vote)
    (λ index i. vote_bits _ _ _ (size own.two ∙ sym (size own.one)) (size own.three ∙ sym (size own.one)) index i)
