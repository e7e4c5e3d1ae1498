use Rattle.std.proofs.Common.{◌≡◌, length, None, refl, sym, ◌∙◌, ap, subst}
use Rattle.std.specs.Option.{option_map}
use Rattle.std.specs.Prelude.{unwrap_or}
use Rattle.lvdc_vote.specs.Copies.{Copies, vote_of, differs_of, IsFresh}
use Rattle.lvdc_vote.specs.Differences.{kept_of}
use Rattle.lvdc_vote.specs.Harms.{harmed}
use Rattle.lvdc_vote.proofs.Votes.{majority_of-ends}
use Rattle.lvdc_vote.proofs.Harms.{harmed_size}
use Rattle.lvdc_vote.proofs.Differences.{kept_two, meant_kept, sized_own, sound_beside, agree_beside_two}
use Rattle.lvdc_vote.proofs.triple.Triple.renew_two.Goals as goal

pub invariant_of-self : goal.invariant_of-self
invariant_of-self g c =
    let f = g.M.State.Vote.latches in
    let n = g.M.State.Vote.LATCHES in
    let count = g.met.M.State.Vote.counted in
    let t = c.self.inside in
    let words = f c.args.state.now in
    let had = unwrap_or (option_map f t.two) (f t.voted) in
    let own = harmed had words c.args.harm.now in
    let size : length own ≡ length words =
    harmed_size had words c.args.harm.now n (sized_own f n count t.two t.voted) (count c.args.state.now) ∙ sym (count c.args.state.now) in
    rw (c.copied.ensures, c.latch_alone.ensures)
    (sound_beside _ words None (kept_of own words) None (kept_two words own size) c.self.invariant)

pub returns-clause-value : goal.returns-clause-value
returns-clause-value g c =
    let f = g.M.State.Vote.latches in
    let t = c.self.inside in
    let words = f c.args.state.now in
    let own = harmed (unwrap_or (option_map f t.two) (f t.voted)) words c.args.harm.now in
    let fresh = subst IsFresh (sym c.self.view_is) c.requires in
    rw (c.copied.ensures, c.latch_alone.ensures, ← c.self.view_is, meant_kept own words, fresh.one, fresh.two, fresh.three) refl

pub returns-clause-vote : goal.returns-clause-vote
returns-clause-vote g c =
    let f = g.M.State.Vote.latches in
    let n = g.M.State.Vote.LATCHES in
    let count = g.met.M.State.Vote.counted in
    let t = c.self.inside in
    let words = f c.args.state.now in
    let own = harmed c.args.self.now.two words c.args.harm.now in
    let size : length own ≡ length words =
    rw (← c.self.view_is)
    (harmed_size _ words c.args.harm.now n (sized_own f n count t.two t.voted) (count c.args.state.now) ∙ sym (count c.args.state.now)) in
    ap vote_of (returns-clause-value g c) ∙ majority_of-ends words own size

pub returns-clause-one : goal.returns-clause-one
returns-clause-one g c =
    let f = g.M.State.Vote.latches in
    let n = g.M.State.Vote.LATCHES in
    let count = g.met.M.State.Vote.counted in
    let t = c.self.inside in
    let words = f c.args.state.now in
    let own = harmed c.args.self.now.two words c.args.harm.now in
    let size : length own ≡ length words =
    rw (← c.self.view_is)
    (harmed_size _ words c.args.harm.now n (sized_own f n count t.two t.voted) (count c.args.state.now) ∙ sym (count c.args.state.now)) in
    ap (λ (t : Copies). differs_of t 0) (returns-clause-value g c) ∙ (agree_beside_two own words size).0

pub returns-clause-three : goal.returns-clause-three
returns-clause-three g c =
    let f = g.M.State.Vote.latches in
    let n = g.M.State.Vote.LATCHES in
    let count = g.met.M.State.Vote.counted in
    let t = c.self.inside in
    let words = f c.args.state.now in
    let own = harmed c.args.self.now.two words c.args.harm.now in
    let size : length own ≡ length words =
    rw (← c.self.view_is)
    (harmed_size _ words c.args.harm.now n (sized_own f n count t.two t.voted) (count c.args.state.now) ∙ sym (count c.args.state.now)) in
    ap (λ (t : Copies). differs_of t 2) (returns-clause-value g c) ∙ (agree_beside_two own words size).1
