use Rattle.std.proofs.Common.{sym, ◌∙◌}
use Rattle.lvdc_macro.proofs.Naming.{called_is, text_is, named-within}
use Rattle.lvdc_macro.proofs.meaning.meaning_of.Goals as goal

pub returns-in-Some-clause-means : goal.returns-in-Some-clause-means
returns-in-Some-clause-means c = λ bytes.
    called_is bytes c.args.text.now c.args.macros.now c.parts_by-parts.result.label.now c.parts_by-parts.result.operation.now c.parts_by-parts.result.operand.now
    c.parts_by-parts.ensures.label c.parts_by-parts.ensures.operation c.parts_by-parts.ensures.operand
    (sym c.is_comment.ensures ∙ c.if-is_comment.false) _ c.as_slice-2.ensures (sym c.eq.ensures ∙ c.if-eq.false) _ c.as_slice-else-eq.ensures (sym c.eq-else-eq.ensures ∙ c.if-eq-2.false)
    c.is_empty-labelled.result c.is_empty-labelled.ensures c.in-Some.body.now (sym c.in-Some.ensures)

pub returns-clause-means : goal.returns-clause-means
returns-clause-means c = λ bytes.
    text_is bytes c.args.text.now c.args.macros.now c.parts_by-parts.result.operation.now
    c.parts_by-parts.ensures.operation
    (sym c.is_comment.ensures ∙ c.if-is_comment.false) _ c.as_slice-2.ensures (sym c.eq.ensures ∙ c.if-eq.false) _ c.as_slice-else-eq.ensures (sym c.eq-else-eq.ensures ∙ c.if-eq-2.false)
    (sym c.in-None.ensures)

pub returns-in-Some-clause-within : goal.returns-in-Some-clause-within
returns-in-Some-clause-within c = λ bytes all. named-within bytes c.args.macros.now c.parts_by-parts.result.operation.now c.in-Some.body.now all (sym c.in-Some.ensures)
