use Rattle.lvdc_text.specs.declared.cutting.Line.{Line}
use Rattle.lvdc_source.proofs.LineSteps.{at_long, at_comment, at_other, at_last}
use Rattle.lvdc_source.proofs.read.after_end.Goals as goal

-- what an index past the end reads
abbrev no_line : Line
no_line = record { number = 0; start = 0; end = 0 }

pub returns-then-is_long-clause-refusal : goal.returns-then-is_long-clause-refusal
returns-then-is_long-clause-refusal c =
    at_long c.args.bytes.now c.loop-line.line-index c.args.lines.now no_line c.part-text.result.now _ c.loop-line-test.true c.part-text.ensures c.loop-line.invariant
    c.is_long.result c.is_long.ensures c.if-is_long.true

pub returns-then-not-is_comment-clause-refusal : goal.returns-then-not-is_comment-clause-refusal
returns-then-not-is_comment-clause-refusal c =
    at_other c.args.bytes.now c.loop-line.line-index c.args.lines.now no_line c.part-text.result.now _ c.loop-line-test.true c.part-text.ensures c.loop-line.invariant
    c.is_long.result c.is_comment.result c.is_long.ensures c.if-is_long.false c.is_comment.ensures c.if-not-is_comment.true

pub loop-line-preserved : goal.loop-line-preserved
loop-line-preserved c =
    at_comment c.args.bytes.now c.loop-line.line-index c.args.lines.now no_line c.part-text.result.now _ c.loop-line-test.true c.part-text.ensures c.loop-line.invariant
    c.is_long.result c.is_comment.result c.is_long.ensures c.if-is_long.false c.is_comment.ensures c.if-not-is_comment.false

pub returns-clause-none : goal.returns-clause-none
returns-clause-none c = at_last c.args.bytes.now c.loop-line.line-index c.args.lines.now _ c.loop-line-test.false c.loop-line.invariant

pub part-text-requires : goal.part-text-requires
part-text-requires c = c.requires _ _ c.loop-line-test.true
