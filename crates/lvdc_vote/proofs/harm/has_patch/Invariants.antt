use Rattle.std.proofs.Common.{◌≡◌, take}
use Rattle.lvdc_vote.specs.Harms.{patched_all}
use Rattle.lvdc_vote.proofs.harm.has_patch.Given as goal

-- no latch passed so far has a patch
abbrev pub invariant-loop-index : goal.invariant-loop-index
invariant-loop-index g l = (state : g.row.S.Denot) → patched_all (take l.index l.patches) (g.S.Vote.latches state) ≡ g.S.Vote.latches state
