use Rattle.std.proofs.Common.{List, Ok, Err, sym, ap, ◌∙◌}
use Rattle.std.proofs.lemmas.List.{drop_more, take_rest}
use Rattle.std.proofs.lemmas.List.Elements.{All-drop}
use Rattle.lvdc_text.specs.Lines.{IsWithin}
use Rattle.lvdc_text.specs.declared.cutting.Line.{Line}
use Rattle.lvdc_uplink.specs.declared.fault.PatchFault.{PatchFault}
use Rattle.lvdc_uplink.specs.Input.{kind_of}
use Rattle.lvdc_uplink.specs.declared.heading.LineKind.TheVariants as kinds
use Rattle.lvdc_uplink.proofs.Steps.{no_line, heading-by, heading-none}
use Rattle.lvdc_uplink.proofs.input.from_heading.Goals as goal

pub returns-in-Long-clause-refusal : goal.returns-in-Long-clause-refusal
returns-in-Long-clause-refusal c =
    sym (heading-by c.args.heading c.args.bytes.now c.args.next c.args.lines.now c.loop-index.index no_line _ c.loop-index.invariant c.loop-index-test.true kinds.Long
    (sym c.in-Long.is ∙ c.kind_of.ensures ∙ ap (kind_of c.args.heading) c.part.ensures))

pub returns-in-Due-clause-found : goal.returns-in-Due-clause-found
returns-in-Due-clause-found c =
    sym (heading-by c.args.heading c.args.bytes.now c.args.next c.args.lines.now c.loop-index.index no_line _ c.loop-index.invariant c.loop-index-test.true kinds.Due
    (sym c.in-Due.is ∙ c.kind_of.ensures ∙ ap (kind_of c.args.heading) c.part.ensures))
    ∙ ap (λ (ls : List Line). Ok ls) (sym (drop_more c.args.lines.now c.loop-index.index no_line c.loop-index-test.true) ∙ sym (take_rest c.args.lines.now c.loop-index.index))

pub returns-in-Other-clause-refusal : goal.returns-in-Other-clause-refusal
returns-in-Other-clause-refusal c =
    sym (heading-by c.args.heading c.args.bytes.now c.args.next c.args.lines.now c.loop-index.index no_line _ c.loop-index.invariant c.loop-index-test.true kinds.Other
    (sym c.in-Other.is ∙ c.kind_of.ensures ∙ ap (kind_of c.args.heading) c.part.ensures))
    ∙ ap (λ (fault : PatchFault). Err fault) (sym c.missing.ensures)

pub loop-index-preserved : goal.loop-index-preserved
loop-index-preserved c =
    heading-by c.args.heading c.args.bytes.now c.args.next c.args.lines.now c.loop-index.index no_line _ c.loop-index.invariant c.loop-index-test.true kinds.Skipped
    (sym c.in-Skipped.is ∙ c.kind_of.ensures ∙ ap (kind_of c.args.heading) c.part.ensures)

pub returns-clause-refusal : goal.returns-clause-refusal
returns-clause-refusal c =
    heading-none c.args.heading c.args.bytes.now c.args.next c.args.lines.now c.loop-index.index no_line _ c.loop-index.invariant c.loop-index-test.false
    ∙ ap (λ (fault : PatchFault). Err fault) (sym c.missing-2.ensures)

pub part-requires : goal.part-requires
part-requires c = c.requires.within _ _ c.loop-index-test.true

pub returns-in-Due-clause-within : goal.returns-in-Due-clause-within
returns-in-Due-clause-within c = rw take_rest (All-drop (IsWithin c.args.bytes.now) c.loop-index.index c.args.lines.now c.requires.within)
