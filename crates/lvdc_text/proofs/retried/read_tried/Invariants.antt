-- The calls so far were interrupted, and took no byte.
use Rattle.std.specs.Io.KnownBytes.{Keeps}
use Rattle.lvdc_text.specs.Tries.{WereInterrupted}
use Rattle.lvdc_text.proofs.retried.read_tried.Given as goal

abbrev pub invariant-loop-made : goal.invariant-loop-made
invariant-loop-made g l = record {
  kept : Keeps (g.R.Reads.left l.fn.reader) (g.R.Reads.left l.reader);
  interrupted : WereInterrupted g.R.Reads.reads l._made (l.fn.reader, l.fn.buf) (l.reader, l.buf);
}
