use Rattle.std.proofs.Common.{◌++◌, ◌∙◌, ap, arith}
use Rattle.lvdc_logic.specs.Logic.{latch_of}
use Rattle.lvdc_debug.specs.Session.{latch_text}
use Rattle.lvdc_debug.proofs.Lines.{below_none, below_more}
use Rattle.lvdc_debug.proofs.texts.put_latches.Goals as goal

pub loop-index-init : goal.loop-index-init
loop-index-init c = record {
  words = below_none _ c.args.out.now.items;
  short = omega arith;
}

pub loop-index-preserved : goal.loop-index-preserved
loop-index-preserved c = record {
  words =
      below_more (λ index. latch_text (latch_of c.args.machine.now.copies c.args.number c.args.copy index)) c.loop-index.index c.args.out.now.items
      c.loop-index.out.items c.put_latch.new.out.items c.loop-index.invariant.words
      (c.in_ok-put_latch.ensures.text ∙ ap (λ w. c.loop-index.out.items ++ latch_text w) c.copy_word.ensures);
  short = omega (arith, c.in_ok-put_latch.ensures.short);
}
