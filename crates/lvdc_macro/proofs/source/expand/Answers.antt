use Rattle.std.proofs.Common.{[], Ok, Err, List, Option, Result, refl, sym, ap, subst, ◌∙◌}
use Rattle.std.proofs.lemmas.Result.{err_from_is_err_and}
use Rattle.lvdc_text.specs.declared.cutting.Line.{Line}
use Rattle.lvdc_text.specs.Lines.{numbered}
use Rattle.lvdc_macro.specs.declared.fault.MacroFault.{MacroFault}
use Rattle.lvdc_macro.specs.declared.fault.MacroFault.TheVariants.{BadMacro}
use Rattle.lvdc_macro.specs.declared.source.Open.{Open}
use Rattle.lvdc_macro.specs.Expansion.{Written, closed, expansion_of}
use Rattle.lvdc_macro.specs.Making.{pending_of, state_of, Gives}
use Rattle.lvdc_macro.proofs.Stepping.{line_brings, line_stops, none_left, closes, expands_from}
use Rattle.lvdc_macro.proofs.source.expand.Goals as goal

-- what an index past the end reads
abbrev no_line : Line
no_line = record { number = 0; start = 0; end = 0 }

pub returns-in_err-pending-clause-refusal : goal.returns-in_err-pending-clause-refusal
returns-in_err-pending-clause-refusal c =
    let parts = err_from_is_err_and c.from_residual.result c.from_residual.ensures.1 in
    rw (parts.1, parts.2) (λ free. c.loop-index.invariant.rest (Err c.in_err-pending.field-0.0) (λ _.
    line_stops c.args.bytes.now c.args.lines.now c.loop-index.index no_line c.loop-index-test.true c.loop-index.next (state_of c.args.bytes.now c.loop-index.macros (pending_of c.args.bytes.now c.args.lines.now c.loop-index.index c.loop-index.pending) c.loop-index.out) c.in_err-pending.field-0.0
    (c.in_err-pending.ensures.refusal free no_line)) free)

pub loop-index-preserved : goal.loop-index-preserved
loop-index-preserved c = record {
  begun = c.in_ok-pending.ensures.begun;
  bodies = c.in_ok-pending.ensures.bodies;
  rest = λ r h. c.loop-index.invariant.rest r
      (line_brings c.args.bytes.now c.args.lines.now c.loop-index.index no_line c.loop-index-test.true c.loop-index.next (state_of c.args.bytes.now c.loop-index.macros (pending_of c.args.bytes.now c.args.lines.now c.loop-index.index c.loop-index.pending) c.loop-index.out) c.loop-index.out c.after_line.new.out _ r (c.in_ok-pending.ensures.brings no_line) h);
}

pub returns-in-Some-clause-refusal : goal.returns-in-Some-clause-refusal
returns-in-Some-clause-refusal c = λ free. c.loop-index.invariant.rest (Err (BadMacro c.loop-index.next)) (λ _.
    none_left c.args.bytes.now c.args.lines.now c.loop-index.index c.loop-index-test.false c.loop-index.next (state_of c.args.bytes.now c.loop-index.macros (pending_of c.args.bytes.now c.args.lines.now c.loop-index.index c.loop-index.pending) c.loop-index.out)
    ∙ ap (λ (o : Option Open). closed c.loop-index.next (pending_of c.args.bytes.now c.args.lines.now c.loop-index.index o)) c.in-Some.is) free

pub returns-clause-expansion : goal.returns-clause-expansion
returns-clause-expansion c =
    expands_from (expansion_of (numbered c.args.bytes.now c.args.lines.now)) c.finish.result (record { bytes = []; origins = []; calls = 0 }) refl
    (c.loop-index.invariant.rest (Ok c.finish.result)
    (subst (λ (due : Result (List Written) MacroFault). Gives (Ok c.finish.result) due c.loop-index.out)
    (sym (none_left c.args.bytes.now c.args.lines.now c.loop-index.index c.loop-index-test.false c.loop-index.next (state_of c.args.bytes.now c.loop-index.macros (pending_of c.args.bytes.now c.args.lines.now c.loop-index.index c.loop-index.pending) c.loop-index.out)
    ∙ ap (λ (o : Option Open). closed c.loop-index.next (pending_of c.args.bytes.now c.args.lines.now c.loop-index.index o)) c.in-None.is))
    (closes c.loop-index.out c.finish.result c.finish.ensures.bytes c.finish.ensures.origins)))
