use Rattle.std.proofs.Common.{◌++◌, ◌∙◌, ap}
use Rattle.lvdc_lines.proofs.LineLists.{lines_below_none, lines_below_more}
use Rattle.lvdc_debug.specs.Session.{latch_text}
use Rattle.lvdc_logic.specs.Logic.{vote_at}
use Rattle.lvdc_trace.proofs.votes.put_vote_words.Goals as goal

pub loop-index-init : goal.loop-index-init
loop-index-init c = lines_below_none (λ index. latch_text (vote_at c.args.machine.now.copies c.args.number index)) c.args.out.now.items

pub loop-index-preserved : goal.loop-index-preserved
loop-index-preserved c =
    lines_below_more (λ index. latch_text (vote_at c.args.machine.now.copies c.args.number index)) c.loop-index.index c.args.out.now.items
    c.loop-index.out.items c.put_latch.new.out.items c.loop-index.invariant
    (c.in_ok-put_latch.ensures.text ∙ ap (λ w. c.loop-index.out.items ++ latch_text w) c.voted_word.ensures)
