use Rattle.std.proofs.Common.{Err, ap, arith}
use Rattle.lvdc_service.proofs.Inputs.{reads_all, overlong, unremembered, from_same}
use Rattle.lvdc_service.proofs.frame.read_and_answer.Goals as goal

pub returns-then-count-limit : goal.returns-then-count-limit
returns-then-count-limit g c = λ words asked.
    c.pass.ensures words (λ input size. overlong words input c.args.command asked c.requires (omega (arith, size, c.limit.ensures, c.if-count-limit.true)))

pub returns-in-Err-NoMemory : goal.returns-in-Err-NoMemory
returns-in-Err-NoMemory g c = λ words asked.
    let kept = c.in-Err-NoMemory.ensures.no_memory (ap Err c.in-Err-NoMemory.field-0-is) in
    from_same g.S.Source.state words c.args.count c.args.reader.now c.input.new.self c.args.source.now c.input.new.source _ _ kept.0 kept.1
    (c.pass-in-Err-NoMemory.ensures words (λ input size. unremembered words input input c.args.command asked
    (reads_all c.args.command input c.requires) (omega (arith, size, c.limit.ensures, c.if-count-limit.false))))
