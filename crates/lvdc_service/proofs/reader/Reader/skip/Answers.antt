use Rattle.std.proofs.Common.{◌++◌, take, sym, ap, ◌∙◌, arith, subst, Ok, length-append, length-take}
use Rattle.std.proofs.lemmas.List.{take-append-drop}
use Rattle.lvdc_text.specs.Causes.{Rose}
use Rattle.lvdc_service.proofs.Uses.{uses_held, uses_more, uses_same}
use Rattle.lvdc_service.proofs.reader.Reader.skip.Goals as goal

pub loop-rest-preserved : goal.loop-rest-preserved
loop-rest-preserved g c =
    let i = c.loop-rest.invariant in
    let n = c.pass-rest.result in
    let piece = take n c.more.new.self in
    let passed = uses_held (g.S.Source.state c.more.new.source).left piece (sym (take-append-drop n c.more.new.self) ∙ ap (λ rest. piece ++ rest) (sym c.pass-rest.ensures.kept)) in
    record {
      used = i.used ++ piece;
      so_many = omega (arith, length-append i.used piece, length-take n c.more.new.self, c.pass-rest.ensures.held, c.pass-rest.ensures.most);
      uses = uses_more (uses_same i.uses c.more.ensures.used) passed;
      quiet = c.in-Ok-true.ensures.cause.quiet ∙ i.quiet;
    }

pub returns-in-Ok-false-clause-short : goal.returns-in-Ok-false-clause-short
returns-in-Ok-false-clause-short g c = λ is.
    let i = c.loop-rest.invariant in
    record {
      used = i.used;
      uses = uses_same i.uses c.more.ensures.used;
      fewer = omega arith;
      nothing = c.more.ensures.none (c.in-Ok-false.is ∙ ap Ok c.in-Ok-false.field-0-test);
    }

pub returns-in-Err-clause-fault : goal.returns-in-Err-clause-fault
returns-in-Err-clause-fault g c = λ is.
    let i = c.loop-rest.invariant in
    (subst (λ n. Rose n (g.S.Source.state c.more.new.source).faults) i.quiet c.in-Err.ensures.cause.failed, i.used, uses_same i.uses c.more.ensures.used)
