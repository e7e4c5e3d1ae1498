use Rattle.std.proofs.Common.{◌≡◌, refl, subst, arith}
use Rattle.lvdc_text.specs.Tries.{WereInterrupted, most_tries}
use Rattle.lvdc_text.specs.Tries.IsTried.{answered, given_up}
use Rattle.lvdc_text.proofs.Tries.{one_more, read_kept}
use Rattle.lvdc_text.proofs.retried.read_tried.Goals as goal

pub loop-made-preserved : goal.loop-made-preserved
loop-made-preserved g c =
    let cut = c.is_interrupted.ensures.cut c.if-not-is_interrupted.false in
    record {
      kept = read_kept _ (g.R.Reads.left c.args.reader.now) (g.R.Reads.left c.loop-made.reader) (g.R.Reads.left c.read_once-read.new.self) c.read_once-read.result c.read_once-read.new.buf c.loop-made.invariant.kept cut c.read_once-read.ensures.bytes;
      interrupted = one_more g.R.Reads.reads c.loop-made._made (c.args.reader.now, c.args.buf.now) (c.loop-made.reader, c.loop-made.buf) (c.read_once-read.new.self, c.read_once-read.new.buf) c.read_once-read.result c.loop-made.invariant.interrupted c.read_once-read.ensures.call cut;
    }

pub returns-then-not-is_interrupted-clause-tried : goal.returns-then-not-is_interrupted-clause-tried
returns-then-not-is_interrupted-clause-tried g c =
    answered c.loop-made._made (c.loop-made.reader, c.loop-made.buf) c.loop-made-test.true c.loop-made.invariant.interrupted c.read_once-read.ensures.call (c.is_interrupted.ensures.other c.if-not-is_interrupted.true)

-- where the calls are at their end all of them were interrupted
pub returns-clause-tried : goal.returns-clause-tried
returns-clause-tried g c =
    let all : c.loop-made._made ≡ most_tries = omega (arith, c.loop-made.auto._made-end, c.loop-made-test.false) in
    given_up c.from.result (subst (λ n. WereInterrupted g.R.Reads.reads n (c.args.reader.now, c.args.buf.now) (c.loop-made.reader, c.loop-made.buf)) all c.loop-made.invariant.interrupted) refl c.from.ensures
