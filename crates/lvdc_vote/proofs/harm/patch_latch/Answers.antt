use Rattle.std.proofs.Common.{◌<◌, sym, subst}
use Rattle.lvdc_vote.proofs.Harms.{patched_at_is}
use Rattle.lvdc_vote.proofs.harm.patch_latch.Goals as goal

pub returns : goal.returns
returns g c =
    let words = g.S.Vote.latches c.args.state.now in
    rw (c.with_force.ensures, c.with_flip-turned.ensures)
    (patched_at_is words c.args.index c.args.patch.now (subst (λ n. c.args.index < n) (sym (g.met.S.Vote.counted c.args.state.now)) c.requires))
