use Rattle.std.proofs.Common.{◌≡◌, ℕ, ◌<◌}
use Rattle.std.specs.Prelude.{slice_index}
use Rattle.lvdc_logic.specs.Logic.{vote_at}
use Rattle.lvdc_trace.proofs.votes.votes_of.Given as goal

abbrev pub invariant-loop-index : goal.invariant-loop-index
invariant-loop-index l = (k : ℕ) → k < l.index → slice_index l.words k ≡ vote_at l.machine.copies l.number k
