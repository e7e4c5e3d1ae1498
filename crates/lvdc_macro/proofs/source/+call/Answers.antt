use Rattle.std.proofs.Common.{Ok, Err, refl, List, ◌≡◌, ◌≤◌, ◌-◌, ℕ, length, map, sym, ap, subst, ◌∙◌, arith}
use Rattle.std.proofs.lemmas.List.{length-map}
use Rattle.std.proofs.lemmas.Result.{err_from_is_err_and}
use Rattle.lvdc_text.specs.declared.cutting.Line.{Line}
use Rattle.lvdc_text.specs.Lines.{part_of}
use Rattle.lvdc_macro.specs.Making.{Out, progress_of, macros_of, Writes}
use Rattle.lvdc_macro.specs.declared.fault.MacroFault.{MacroFault}
use Rattle.lvdc_macro.specs.declared.fault.MacroFault.TheVariants.{BadMacro}
use Rattle.lvdc_macro.specs.Macros.{Text, Begin, End, Call, meaning_of}
use Rattle.lvdc_macro.specs.Substitution.{arguments_of, substituted}
use Rattle.lvdc_macro.specs.Expansion.{write, called}
use Rattle.lvdc_macro.proofs.Calling.{too_many_arguments, labelled_call, too_deep, too_many_calls, entered_with, too_long_here, refused_here, goes_on, ended_here}
use Rattle.lvdc_macro.proofs.source.+call.Goals as goal
use Rattle.lvdc_macro.proofs.source.+call.Goals.{in-Text+in_ok-write-in-Text, in-Call+in_ok-call-in-Call}

pub returns-in_default : goal.returns-in_default
returns-in_default t c = λ _.
    too_many_arguments c.args.left (macros_of c.args.bytes.now c.args.macros.now) c.args.calling.origin (progress_of c.args.out.now) c.args.calling.labelled c.args.calling.operand.now (map (part_of c.args.bytes.now) c.args.calling.body.now)
    (rw c.in_default.is at c.arguments_of.ensures.none)

pub returns-then-calling : goal.returns-then-calling
returns-then-calling t c = λ _.
    labelled_call c.args.left (macros_of c.args.bytes.now c.args.macros.now) c.args.calling.origin (progress_of c.args.out.now) c.args.calling.labelled c.args.calling.operand.now (map (part_of c.args.bytes.now) c.args.calling.body.now)
    c.if-calling.true

-- what an index past the end reads
abbrev no_line : Line
no_line = record { number = 0; start = 0; end = 0 }

few_arguments : {A : Type 0} (f : A → List ℕ) (items : List A) (operand : List ℕ) → map f items ≡ arguments_of operand → length items ≤ 9 → length (arguments_of operand) ≤ 9
few_arguments f items operand e l = omega (arith, ap length e, length-map items f)

pub returns-then-left-eq0 : goal.returns-then-left-eq0
returns-then-left-eq0 t c = λ _.
    too_deep c.args.left (macros_of c.args.bytes.now c.args.macros.now) c.args.calling.origin (progress_of c.args.out.now) c.args.calling.labelled c.args.calling.operand.now (map (part_of c.args.bytes.now) c.args.calling.body.now)
    c.if-calling.false (few_arguments (λ a. a.now) c.in-Some.arguments.items c.args.calling.operand.now c.in-Some.ensures.some c.in-Some.ensures.few) c.if-left-eq0.true

pub returns-in_err-number : goal.returns-in_err-number
returns-in_err-number t c =
    let parts = err_from_is_err_and c.from_residual.result c.from_residual.ensures.1 in
    rw (parts.1, parts.2) (λ _.
    too_many_calls (macros_of c.args.bytes.now c.args.macros.now) c.args.calling.origin (progress_of c.args.out.now) c.args.calling.labelled c.args.calling.operand.now (map (part_of c.args.bytes.now) c.args.calling.body.now)
    c.if-calling.false (few_arguments (λ a. a.now) c.in-Some.arguments.items c.args.calling.operand.now c.in-Some.ensures.some c.in-Some.ensures.few) c.args.left (omega arith) c.in_err-number.ensures.refusal.1
    ∙ ap (λ (f : MacroFault). Err f) (sym c.in_err-number.ensures.refusal.0))

pub loop-line-init : goal.loop-line-init
loop-line-init t c = let most : c.in_ok-number.number ≤ 999 = c.in_ok-number.ensures.few in record {
  number = omega arith;
  some = omega arith;
  rest = λ result new h.
      entered_with (macros_of c.args.bytes.now c.args.macros.now) c.args.calling.origin c.args.calling.labelled c.args.calling.operand.now (map (part_of c.args.bytes.now) c.args.calling.body.now) c.if-calling.false
      (few_arguments (λ a. a.now) c.in-Some.arguments.items c.args.calling.operand.now c.in-Some.ensures.some c.in-Some.ensures.few) c.args.left c.args.out.now c.begin_call.new.self new c.in_ok-number.number
      (map (λ a. a.now) c.in-Some.arguments.items) result (omega arith) most c.in_ok-number.ensures.number c.in_ok-number.ensures.begun c.in-Some.ensures.some h;
}

pub returns-in_err-text : goal.returns-in_err-text
returns-in_err-text t c =
    let parts = err_from_is_err_and c.from_residual-in_err-text.result c.from_residual-in_err-text.ensures.1 in
    rw (parts.1, parts.2) (λ free. c.loop-line.invariant.rest (Err c.in_err-text.field-0.0) c.loop-line.out (λ _.
    too_long_here c.args.left c.args.calling.origin c.in_ok-number.number (macros_of c.args.bytes.now c.args.macros.now) (map (λ a. a.now) c.in-Some.arguments.items) c.args.bytes.now c.args.calling.body.now c.loop-line.line-index no_line c.loop-line-test.true c.loop-line.out c.part.result.now
    (substituted c.in_ok-number.number (map (λ a. a.now) c.in-Some.arguments.items) c.part.result.now) c.part.ensures refl (c.in_err-text.ensures.refusal free).1
    ∙ ap (λ (f : MacroFault). Err f) (sym (c.in_err-text.ensures.refusal free).0)) free)

pub returns-in_err-write-in-Text : goal.returns-in_err-write-in-Text
returns-in_err-write-in-Text t c =
    let parts = err_from_is_err_and c.from_residual-in_err-write-in-Text.result c.from_residual-in_err-write-in-Text.ensures.1 in
    rw (parts.1, parts.2) (λ free. c.loop-line.invariant.rest (Err c.in_err-write-in-Text.field-0.0) c.loop-line.out (λ _.
    refused_here c.args.left c.args.calling.origin c.in_ok-number.number (macros_of c.args.bytes.now c.args.macros.now) (map (λ a. a.now) c.in-Some.arguments.items) c.args.bytes.now c.args.calling.body.now c.loop-line.line-index no_line c.loop-line-test.true c.loop-line.out c.part.result.now c.in_ok-text.text.items
    c.part.ensures c.in_ok-text.ensures.line c.in_ok-text.ensures.short Text (ap (meaning_of (macros_of c.args.bytes.now c.args.macros.now)) (sym c.deref.ensures.value) ∙ (rw c.in-Text.is at (c.in_ok-meaning_of.ensures.means c.args.bytes.now)))
    c.in_err-write-in-Text.field-0.0 (ap (write c.args.calling.origin (progress_of c.loop-line.out)) (sym c.deref-in-Text.ensures.value) ∙ c.in_err-write-in-Text.ensures free)) free)

pub call-requires : goal.call-requires
call-requires t c =
    let some = c.loop-line.invariant.some in
    let most = c.decreases in
    (omega arith, (c.requires.size, ((rw c.in-Call.is at (c.in_ok-meaning_of.ensures.within c.args.bytes.now c.requires.bodies)), c.requires.bodies)))

pub returns-in_err-call-in-Call : goal.returns-in_err-call-in-Call
returns-in_err-call-in-Call t c =
    let parts = err_from_is_err_and c.from_residual-in_err-call-in-Call.result c.from_residual-in_err-call-in-Call.ensures.1 in
    rw (parts.1, parts.2) (λ free. c.loop-line.invariant.rest (Err c.in_err-call-in-Call.field-0.0) c.loop-line.out (λ _.
    refused_here c.args.left c.args.calling.origin c.in_ok-number.number (macros_of c.args.bytes.now c.args.macros.now) (map (λ a. a.now) c.in-Some.arguments.items) c.args.bytes.now c.args.calling.body.now c.loop-line.line-index no_line c.loop-line-test.true c.loop-line.out c.part.result.now c.in_ok-text.text.items
    c.part.ensures c.in_ok-text.ensures.line c.in_ok-text.ensures.short (Call c.in-Call.labelled c.in-Call.operand.now (map (part_of c.args.bytes.now) c.in-Call.body.now)) (ap (meaning_of (macros_of c.args.bytes.now c.args.macros.now)) (sym c.deref.ensures.value) ∙ (rw c.in-Call.is at (c.in_ok-meaning_of.ensures.means c.args.bytes.now)))
    c.in_err-call-in-Call.field-0.0 (c.in_err-call-in-Call.ensures free)) free)

pub returns-in-Begin : goal.returns-in-Begin
returns-in-Begin t c =
    λ free. c.loop-line.invariant.rest (Err (BadMacro c.args.calling.origin)) c.loop-line.out (λ _.
    refused_here c.args.left c.args.calling.origin c.in_ok-number.number (macros_of c.args.bytes.now c.args.macros.now) (map (λ a. a.now) c.in-Some.arguments.items) c.args.bytes.now c.args.calling.body.now c.loop-line.line-index no_line c.loop-line-test.true c.loop-line.out c.part.result.now c.in_ok-text.text.items
    c.part.ensures c.in_ok-text.ensures.line c.in_ok-text.ensures.short (Begin c.in-Begin.field-0.now) (ap (meaning_of (macros_of c.args.bytes.now c.args.macros.now)) (sym c.deref.ensures.value) ∙ (rw c.in-Begin.is at (c.in_ok-meaning_of.ensures.means c.args.bytes.now)))
    (BadMacro c.args.calling.origin) refl) free

pub returns-in-End : goal.returns-in-End
returns-in-End t c =
    λ free. c.loop-line.invariant.rest (Err (BadMacro c.args.calling.origin)) c.loop-line.out (λ _.
    refused_here c.args.left c.args.calling.origin c.in_ok-number.number (macros_of c.args.bytes.now c.args.macros.now) (map (λ a. a.now) c.in-Some.arguments.items) c.args.bytes.now c.args.calling.body.now c.loop-line.line-index no_line c.loop-line-test.true c.loop-line.out c.part.result.now c.in_ok-text.text.items
    c.part.ensures c.in_ok-text.ensures.line c.in_ok-text.ensures.short (End c.in-End.labelled) (ap (meaning_of (macros_of c.args.bytes.now c.args.macros.now)) (sym c.deref.ensures.value) ∙ (rw c.in-End.is at (c.in_ok-meaning_of.ensures.means c.args.bytes.now)))
    (BadMacro c.args.calling.origin) refl) free

pub loop-line-preserved : goal.loop-line-preserved
loop-line-preserved t c = record {
  number = c.loop-line.invariant.number;
  some = c.loop-line.invariant.some;
  rest = λ result new h. c.loop-line.invariant.rest result new (elim c.match-branch-4.branch [
    | in-Text+in_ok-write-in-Text w ↦
        goes_on c.args.left c.args.calling.origin c.in_ok-number.number (macros_of c.args.bytes.now c.args.macros.now) (map (λ a. a.now) c.in-Some.arguments.items) c.args.bytes.now c.args.calling.body.now c.loop-line.line-index no_line c.loop-line-test.true c.loop-line.out c.part.result.now c.in_ok-text.text.items
        c.part.ensures c.in_ok-text.ensures.line c.in_ok-text.ensures.short Text (ap (meaning_of (macros_of c.args.bytes.now c.args.macros.now)) (sym c.deref.ensures.value) ∙ (rw w.in-Text.is at (c.in_ok-meaning_of.ensures.means c.args.bytes.now))) c.match-branch-4.out new result
        (subst (λ (o : Out). Writes (write c.args.calling.origin (progress_of c.loop-line.out) c.in_ok-text.text.items) c.loop-line.out o) (sym w.out-is)
        (subst (λ (text : List ℕ). Writes (write c.args.calling.origin (progress_of c.loop-line.out) text) c.loop-line.out w.write.new.self) w.deref-in-Text.ensures.value w.in_ok-write-in-Text.ensures)) h
    | in-Call+in_ok-call-in-Call w ↦
        goes_on c.args.left c.args.calling.origin c.in_ok-number.number (macros_of c.args.bytes.now c.args.macros.now) (map (λ a. a.now) c.in-Some.arguments.items) c.args.bytes.now c.args.calling.body.now c.loop-line.line-index no_line c.loop-line-test.true c.loop-line.out c.part.result.now c.in_ok-text.text.items
        c.part.ensures c.in_ok-text.ensures.line c.in_ok-text.ensures.short (Call w.in-Call.labelled w.in-Call.operand.now (map (part_of c.args.bytes.now) w.in-Call.body.now)) (ap (meaning_of (macros_of c.args.bytes.now c.args.macros.now)) (sym c.deref.ensures.value) ∙ (rw w.in-Call.is at (c.in_ok-meaning_of.ensures.means c.args.bytes.now))) c.match-branch-4.out new result
        (subst (λ (o : Out). Writes (called (c.args.left - 1) (macros_of c.args.bytes.now c.args.macros.now) c.args.calling.origin (progress_of c.loop-line.out) w.in-Call.labelled w.in-Call.operand.now
        (map (part_of c.args.bytes.now) w.in-Call.body.now)) c.loop-line.out o) (sym w.out-is) w.in_ok-call-in-Call.ensures) h
  ]);
}

pub returns : goal.returns
returns t c = c.loop-line.invariant.rest (Ok tt) c.loop-line.out
    (ended_here c.args.left c.args.calling.origin c.in_ok-number.number (macros_of c.args.bytes.now c.args.macros.now) (map (λ a. a.now) c.in-Some.arguments.items) c.args.bytes.now c.args.calling.body.now c.loop-line.line-index c.loop-line-test.false c.loop-line.out)
