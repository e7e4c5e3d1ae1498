use Rattle.std.proofs.Common.{◌≡◌, take}
use Rattle.lvdc_vote.specs.Harms.{patched_all}
use Rattle.lvdc_vote.proofs.harm.patch_all.Given as goal

-- each latch passed so far has its patch
abbrev pub invariant-loop-index : goal.invariant-loop-index
invariant-loop-index g l = g.S.Vote.latches l.patched ≡ patched_all (take l.index l.patches) (g.S.Vote.latches l.fn.state)
