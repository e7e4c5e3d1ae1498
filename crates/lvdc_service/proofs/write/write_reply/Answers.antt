use Rattle.std.proofs.Common.{◌∙◌}
use Rattle.lvdc_service.proofs.Written.{line_cut, text_cut}
use Rattle.lvdc_service.proofs.write.write_reply.Goals as goal

pub returns-in-Err : goal.returns-in-Err
returns-in-Err g c =
    let at = λ (sink : _). g.K.Sink.state sink in
    line_cut (at c.args.sink.now) (at c.write_all.new.sink) c.args.status c.args.text.now c.as_slice.result.now c.in-Err.field-0.written
    (c.as_slice.ensures.value ∙ c.line_of-line.ensures)
    c.in-Err.ensures.part.0 c.in-Err.ensures.part.1 c.in-Err.ensures.cause.failed

pub returns-in-Err-write_all : goal.returns-in-Err-write_all
returns-in-Err-write_all g c =
    let at = λ (sink : _). g.K.Sink.state sink in
    text_cut (at c.args.sink.now) (at c.write_all.new.sink) (at c.write_all-in-Ok.new.sink) c.args.status c.args.text.now c.as_slice.result.now c.in-Err-write_all.field-0.written
    (c.as_slice.ensures.value ∙ c.line_of-line.ensures)
    c.in-Ok.ensures.all c.in-Ok.ensures.cause.quiet
    c.in-Err-write_all.ensures.part.0 c.in-Err-write_all.ensures.part.1 c.in-Err-write_all.ensures.cause.failed
