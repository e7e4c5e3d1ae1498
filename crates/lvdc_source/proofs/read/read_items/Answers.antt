use Rattle.std.proofs.Common.{List, ◌≡◌, ◌+◌, ◌++◌, ◌∷◌, [], Ok, is_ok, drop, get_or, ap, ◌∙◌}
use Rattle.std.proofs.ResultArms.{chosen}
use Rattle.std.proofs.lemmas.Result.{err_from_is_err_and}
use Rattle.std.proofs.lemmas.List.{take_rest}
use Rattle.lvdc_text.specs.declared.cutting.Line.{Line}
use Rattle.lvdc_source.specs.declared.block.Block.{Block}
use Rattle.lvdc_source.specs.declared.item.Item.{Item}
use Rattle.lvdc_source.specs.declared.meaning.Meaning.{Meaning}
use Rattle.lvdc_text.specs.Lines.{numbered}
use Rattle.lvdc_source.specs.Source.{items_from}
use Rattle.lvdc_source.proofs.LineSteps.{with_items, at_fault, at_nothing, at_item, at_end, at_end_fault, at_missing_end}
use Rattle.lvdc_source.proofs.read.read_items.Goals as goal

-- what an index past the end reads
abbrev no_line : Line
no_line = record { number = 0; start = 0; end = 0 }

pub returns-in_err-meaning-clause-refusal : goal.returns-in_err-meaning-clause-refusal
returns-in_err-meaning-clause-refusal c =
    let parts = err_from_is_err_and c.from_residual.result c.from_residual.ensures.1 in
    rw (parts.1, parts.2)
    (λ free. at_fault c.args.bytes.now c.loop-index.items.items c.loop-index.block c.loop-index.next c.loop-index.index c.args.lines.now no_line c.part.result.now _
    c.loop-index-test.true c.part.ensures c.loop-index.invariant c.in_err-meaning.field-0.0 (c.in_err-meaning.ensures free))

pub loop-index-preserved-in-Nothing : goal.loop-index-preserved-in-Nothing
loop-index-preserved-in-Nothing c =
    at_nothing c.args.bytes.now c.loop-index.items.items c.loop-index.block c.loop-index.next c.loop-index.index c.args.lines.now no_line c.part.result.now _
    c.loop-index-test.true c.part.ensures c.loop-index.invariant (c.in_ok-meaning.ensures ∙ ap (λ (m : Meaning). Ok m) c.in-Nothing.is)

pub returns-in-End-clause-items : goal.returns-in-End-clause-items
returns-in-End-clause-items c =
    at_end c.args.bytes.now c.loop-index.items.items c.loop-index.block c.loop-index.next c.loop-index.index c.args.lines.now no_line c.part.result.now _
    c.loop-index-test.true c.part.ensures c.loop-index.invariant (c.in_ok-meaning.ensures ∙ ap (λ (m : Meaning). Ok m) c.in-End.is)
    (rw take_rest at c.in_ok-after_end-in-End.ensures.none)

pub returns-in_err-after_end-in-End-clause-refusal : goal.returns-in_err-after_end-in-End-clause-refusal
returns-in_err-after_end-in-End-clause-refusal c =
    let parts = err_from_is_err_and c.from_residual-in_err-after_end-in-End.result c.from_residual-in_err-after_end-in-End.ensures.1 in
    rw (parts.1, parts.2)
    (λ _. at_end_fault c.args.bytes.now c.loop-index.items.items c.loop-index.block c.loop-index.next c.loop-index.index c.args.lines.now no_line c.part.result.now _
    c.loop-index-test.true c.part.ensures c.loop-index.invariant c.in_err-after_end-in-End.field-0.0 (c.in_ok-meaning.ensures ∙ ap (λ (m : Meaning). Ok m) c.in-End.is)
    (rw take_rest at c.in_err-after_end-in-End.ensures.refusal))

pub loop-index-preserved : goal.loop-index-preserved
loop-index-preserved c =
    let pushed : c.push.new.self.items ≡ c.loop-index.items.items ++ c.in-Item.item ∷ [] = chosen _ _ _ _ c.push.ensures.items (ap is_ok c.in_ok-push-in-Item.was) in
    ap (λ (items : List Item). with_items items (items_from c.after-block.result ((get_or c.args.lines.now c.loop-index.index no_line).number + 1) (numbered c.args.bytes.now (drop (c.loop-index.index + 1) c.args.lines.now)))) pushed
    ∙ ap (λ (block : Block). with_items (c.loop-index.items.items ++ c.in-Item.item ∷ []) (items_from block ((get_or c.args.lines.now c.loop-index.index no_line).number + 1) (numbered c.args.bytes.now (drop (c.loop-index.index + 1) c.args.lines.now)))) c.after-block.ensures
    ∙ at_item c.args.bytes.now c.loop-index.items.items c.loop-index.block c.loop-index.next c.loop-index.index c.args.lines.now no_line c.part.result.now _
    c.loop-index-test.true c.part.ensures c.loop-index.invariant c.in-Item.item (c.in_ok-meaning.ensures ∙ ap (λ (m : Meaning). Ok m) c.in-Item.is)

pub returns-clause-refusal : goal.returns-clause-refusal
returns-clause-refusal c = λ _.
    at_missing_end c.args.bytes.now c.loop-index.items.items c.loop-index.block c.loop-index.next c.loop-index.index c.args.lines.now _ c.loop-index-test.false c.loop-index.invariant

pub returns-in_err-meaning-clause-items : goal.returns-in_err-meaning-clause-items
returns-in_err-meaning-clause-items c =
    let parts = err_from_is_err_and c.from_residual.result c.from_residual.ensures.1 in
    rw parts.1 tt

pub part-requires : goal.part-requires
part-requires c = c.requires.within _ _ c.loop-index-test.true

pub returns-in_err-after_end-in-End-clause-items : goal.returns-in_err-after_end-in-End-clause-items
returns-in_err-after_end-in-End-clause-items c =
    let parts = err_from_is_err_and c.from_residual-in_err-after_end-in-End.result c.from_residual-in_err-after_end-in-End.ensures.1 in
    rw parts.1 tt
