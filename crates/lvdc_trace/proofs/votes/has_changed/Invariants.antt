use Rattle.std.proofs.Common.{◌≡◌, List}
use Rattle.std.specs.Prelude.{not, ◌==◌}
use Rattle.lvdc_vote.specs.Copies.{Copies}
use Rattle.lvdc_logic.specs.Logic.{vote_at}
use Rattle.lvdc_trace.specs.Steps.{any_below}
use Rattle.lvdc_trace.specs.Votes.{AreVotesOf}
use Rattle.lvdc_trace.proofs.votes.has_changed.Given as goal

abbrev pub invariant-loop-index : goal.invariant-loop-index
invariant-loop-index l = (copies : List Copies) → AreVotesOf l.before copies l.number
    → l.changed ≡ any_below (λ index. not (vote_at l.machine.copies l.number index == vote_at copies l.number index)) l.index
