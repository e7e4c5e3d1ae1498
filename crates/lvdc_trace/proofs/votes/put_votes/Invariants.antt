use Rattle.std.proofs.Common.{◌≡◌, ◌+◌, ◌≤◌, ◌++◌, List, length}
use Rattle.lvdc_vote.specs.Copies.{Copies}
use Rattle.lvdc_lines.specs.Noted.{lines_below}
use Rattle.lvdc_trace.specs.Steps.{told_vote}
use Rattle.lvdc_trace.specs.Votes.{AreVotes}
use Rattle.lvdc_trace.proofs.Lengths.{vote_room}
use Rattle.lvdc_trace.proofs.votes.put_votes.Given as goal

abbrev pub invariant-loop-modules : goal.invariant-loop-modules
invariant-loop-modules l = record {
  lines : (copies : List Copies) → AreVotes l.before copies
      → l.out.items ≡ l.initial.out.items ++ lines_below (λ modules. told_vote l.always copies l.machine.copies (modules + 1)) l.modules;
  short : length l.out.items ≤ length l.initial.out.items + vote_room l.modules;
}
