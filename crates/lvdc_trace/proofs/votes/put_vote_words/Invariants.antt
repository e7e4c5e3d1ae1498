use Rattle.std.proofs.Common.{◌≡◌, ◌++◌}
use Rattle.lvdc_lines.specs.Noted.{lines_below}
use Rattle.lvdc_debug.specs.Session.{latch_text}
use Rattle.lvdc_logic.specs.Logic.{vote_at}
use Rattle.lvdc_trace.proofs.votes.put_vote_words.Given as goal

abbrev pub invariant-loop-index : goal.invariant-loop-index
invariant-loop-index l = l.out.items ≡ l.initial.out.items ++ lines_below (λ index. latch_text (vote_at l.machine.copies l.number index)) l.index
