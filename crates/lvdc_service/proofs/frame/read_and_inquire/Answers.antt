use Rattle.std.proofs.Common.{Err, ap, arith}
use Rattle.lvdc_service.specs.Served.{inquiry_too_long, inquiry_wants_memory}
use Rattle.lvdc_service.proofs.Inputs.{from_same}
use Rattle.lvdc_service.proofs.frame.read_and_inquire.Goals as goal

pub returns-then-count-most_bytes : goal.returns-then-count-most_bytes
returns-then-count-most_bytes g c = λ words none asked.
    c.pass.ensures words (λ input size. inquiry_too_long c.args.inquiry none asked (omega (arith, size, c.most_bytes.ensures, c.if-count-most_bytes.true)))

pub returns-in-Err-NoMemory : goal.returns-in-Err-NoMemory
returns-in-Err-NoMemory g c = λ words none asked.
    let kept = c.in-Err-NoMemory.ensures.no_memory (ap Err c.in-Err-NoMemory.field-0-is) in
    from_same g.S.Source.state words c.args.count c.args.reader.now c.input.new.self c.args.source.now c.input.new.source _ _ kept.0 kept.1
    (c.pass-in-Err-NoMemory.ensures words (λ input size. inquiry_wants_memory c.args.inquiry none asked
    (omega (arith, size, c.most_bytes.ensures, c.if-count-most_bytes.false))))
