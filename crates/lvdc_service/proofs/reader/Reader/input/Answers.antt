use Rattle.std.proofs.Common.{◌-◌, ◌++◌, length, take, sym, ap, ◌∙◌, arith, subst, length-append, length-take}
use Rattle.std.proofs.lemmas.List.{take-append-drop}
use Rattle.lvdc_text.specs.Causes.{Rose}
use Rattle.lvdc_service.specs.Reading.{Uses}
use Rattle.lvdc_service.proofs.Uses.{uses_held, uses_more, uses_same}
use Rattle.lvdc_service.proofs.reader.Reader.input.Goals as goal

pub loop-input-preserved : goal.loop-input-preserved
loop-input-preserved g c =
    let i = c.loop-input.invariant in
    let n = c.args.count - c.len-in-loop-input.result in
    let piece = take n c.more.new.self in
    let given = uses_held (g.S.Source.state c.more.new.source).left piece (sym (take-append-drop n c.more.new.self) ∙ ap (λ rest. piece ++ rest) (sym c.give.ensures.kept)) in
    record {
      few = omega (arith, ap length c.give.ensures.given, length-append c.loop-input.input.items piece, length-take n c.more.new.self);
      room = omega (arith, c.give.ensures.room);
      uses = subst (Uses c.args.self.now (g.S.Source.state c.args.source.now).left c.give.new.self (g.S.Source.state c.more.new.source).left) (sym c.give.ensures.given) (uses_more (uses_same i.uses c.more.ensures.used) given);
      quiet = c.in-Ok-true.ensures.cause.quiet ∙ i.quiet;
    }

pub returns-in-Err-more-clause-fault : goal.returns-in-Err-more-clause-fault
returns-in-Err-more-clause-fault g c = λ is.
    let i = c.loop-input.invariant in
    (subst (λ n. Rose n (g.S.Source.state c.more.new.source).faults) i.quiet c.in-Err-more.ensures.cause.failed, c.loop-input.input.items, uses_same i.uses c.more.ensures.used)
