use Rattle.std.proofs.Common.{arith, refl}
use Rattle.lvdc_save.proofs.Printing.{copies_more, no_copies, copies_done}
use Rattle.lvdc_save.proofs.AllPrinted.{has_more}
use Rattle.lvdc_save.proofs.print.put_copies.Goals as goal

pub loop-index-init : goal.loop-index-init
loop-index-init c = record { lines = no_copies c.args.out.now.items; latches = λ i none. absurd (omega (arith, none)); from = refl }

pub loop-index-preserved : goal.loop-index-preserved
loop-index-preserved c = record {
  lines = copies_more c.args.snapshot.now c.loop-index.index _ c.loop-index.out.items c.put_copy_at.new.out.items c.loop-index.invariant.lines c.in_ok-from.ensures.line;
  latches = has_more c.args.snapshot.now c.loop-index.index c.loop-index.invariant.latches c.in_ok-from.ensures.latches;
  from = c.in_ok-from.ensures.next;
}

pub returns-clause-lines : goal.returns-clause-lines
returns-clause-lines c =
    copies_done c.args.snapshot.now c.loop-index.index _ c.loop-index.out.items (omega (arith, c.loop-index-test.false, c.loop-index.auto.index-end)) c.loop-index.invariant.lines

pub returns-clause-latches : goal.returns-clause-latches
returns-clause-latches c = λ i l. let last = c.loop-index-test.false in c.loop-index.invariant.latches i (omega (arith, l, last))
