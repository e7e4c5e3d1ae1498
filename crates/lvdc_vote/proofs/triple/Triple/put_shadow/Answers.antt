use Rattle.std.proofs.Common.{◌≡◌, arith}
use Rattle.lvdc_vote.proofs.Differences.{sound_one, sound_two, sound_three, view_one, view_two, view_three}
use Rattle.lvdc_vote.proofs.triple.Triple.put_shadow.Goals as goal

pub invariant_of-self : goal.invariant_of-self
invariant_of-self g c = rw (c.note.ensures.first, c.note.ensures.own, c.note.ensures.latched) (sound_one _ (g.M.State.Vote.latches c.args.shadow) c.self.invariant)

pub returns-in-0 : goal.returns-in-0
returns-in-0 g c =
    rw (c.note.ensures.first, c.note.ensures.own, c.note.ensures.latched, ← c.self.view_is, c.in-0.is)
    (view_one _ (g.M.State.Vote.latches c.args.shadow) c.self.invariant)

pub invariant_of-self-in-1 : goal.invariant_of-self-in-1
invariant_of-self-in-1 g c = rw (c.note-in-1.ensures.first, c.note-in-1.ensures.own, c.note-in-1.ensures.latched) (sound_two _ (g.M.State.Vote.latches c.args.shadow) c.self.invariant)

pub returns-in-1 : goal.returns-in-1
returns-in-1 g c =
    rw (c.note-in-1.ensures.first, c.note-in-1.ensures.own, c.note-in-1.ensures.latched, ← c.self.view_is, c.in-1.is)
    (view_two _ (g.M.State.Vote.latches c.args.shadow) c.self.invariant)

pub invariant_of-self-in_default : goal.invariant_of-self-in_default
invariant_of-self-in_default g c = rw (c.note-in_default.ensures.first, c.note-in_default.ensures.own, c.note-in_default.ensures.latched) (sound_three _ (g.M.State.Vote.latches c.args.shadow) c.self.invariant)

pub returns-in_default : goal.returns-in_default
returns-in_default g c =
    let last : c.args.copy ≡ 2 = omega arith in
    rw (c.note-in_default.ensures.first, c.note-in_default.ensures.own, c.note-in_default.ensures.latched, ← c.self.view_is, last)
    (view_three _ (g.M.State.Vote.latches c.args.shadow) c.self.invariant)
