-- The calls so far were interrupted, and took no byte.
use Rattle.std.specs.Io.KnownBytes.{Keeps}
use Rattle.lvdc_text.specs.Tries.{WereInterrupted}
use Rattle.lvdc_text.proofs.retried.write_tried.Given as goal

abbrev pub invariant-loop-made : goal.invariant-loop-made
invariant-loop-made g l = record {
  kept : Keeps (g.W.Writes.written l.fn.writer) (g.W.Writes.written l.writer);
  interrupted : WereInterrupted (g.W.Writes.writes l.buf) l._made l.fn.writer l.writer;
}
