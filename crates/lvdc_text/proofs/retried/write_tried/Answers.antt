use Rattle.std.proofs.Common.{◌≡◌, refl, subst, arith}
use Rattle.lvdc_text.specs.Tries.{WereInterrupted, most_tries}
use Rattle.lvdc_text.specs.Tries.IsTried.{answered, given_up}
use Rattle.lvdc_text.proofs.Tries.{one_more, write_kept}
use Rattle.lvdc_text.proofs.retried.write_tried.Goals as goal

pub loop-made-preserved : goal.loop-made-preserved
loop-made-preserved g c =
    let cut = c.is_interrupted.ensures.cut c.if-not-is_interrupted.false in
    record {
      kept = write_kept _ (g.W.Writes.written c.args.writer.now) (g.W.Writes.written c.loop-made.writer) (g.W.Writes.written c.write_once-written.new.self) c.write_once-written.result c.args.buf.now c.loop-made.invariant.kept cut c.write_once-written.ensures.bytes;
      interrupted = one_more (g.W.Writes.writes c.args.buf.now) c.loop-made._made c.args.writer.now c.loop-made.writer c.write_once-written.new.self c.write_once-written.result c.loop-made.invariant.interrupted c.write_once-written.ensures.call cut;
    }

pub returns-then-not-is_interrupted-clause-tried : goal.returns-then-not-is_interrupted-clause-tried
returns-then-not-is_interrupted-clause-tried g c =
    answered c.loop-made._made c.loop-made.writer c.loop-made-test.true c.loop-made.invariant.interrupted c.write_once-written.ensures.call (c.is_interrupted.ensures.other c.if-not-is_interrupted.true)

-- where the calls are at their end all of them were interrupted
pub returns-clause-tried : goal.returns-clause-tried
returns-clause-tried g c =
    let all : c.loop-made._made ≡ most_tries = omega (arith, c.loop-made.auto._made-end, c.loop-made-test.false) in
    given_up c.from.result (subst (λ n. WereInterrupted (g.W.Writes.writes c.args.buf.now) n c.args.writer.now c.loop-made.writer) all c.loop-made.invariant.interrupted) refl c.from.ensures
