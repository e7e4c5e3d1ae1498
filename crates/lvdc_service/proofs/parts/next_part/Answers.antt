use Rattle.lvdc_service.proofs.Splitting.{part_ended, part_last}
use Rattle.lvdc_service.proofs.parts.next_part.Goals as goal

pub returns-else-line-end-ne32-clause-more : goal.returns-else-line-end-ne32-clause-more
returns-else-line-end-ne32-clause-more c = λ more.
    part_ended c.args.line.now c.args.start c.loop-end.end c.loop-end.invariant.after more c.loop-end.invariant.no_space c.if-line-end-ne32.false

pub returns-after-loop-end-clause-last : goal.returns-after-loop-end-clause-last
returns-after-loop-end-clause-last c = λ last.
    part_last c.args.line.now c.args.start c.loop-end.end c.loop-end.invariant.after last c.loop-end.invariant.no_space
