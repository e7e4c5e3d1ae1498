use Rattle.std.proofs.Common.{sym, arith}
use Rattle.std.proofs.lemmas.Option.{get_or_from_slice_get}
use Rattle.lvdc_save.specs.declared.entry.Entry.TheVariants as says
use Rattle.lvdc_save.proofs.Texts.{entries_more, entries_done}
use Rattle.lvdc_save.proofs.print.put_script.Goals as goal

pub loop-index-preserved : goal.loop-index-preserved
loop-index-preserved c =
    entries_more says.Fault c.loop-index.index c.args.script.now c.event.result.now c.loop-index.out.items c.put_fault.new.out.items _
    (omega (arith, c.loop-index-test.true, c.len-index-end.ensures))
    (sym (get_or_from_slice_get c.args.script.now c.loop-index.index c.event.result.now c.event.result.now c.event.ensures))
    c.in_ok-put_fault.ensures c.loop-index.invariant

pub returns : goal.returns
returns c =
    entries_done says.Fault c.loop-index.index c.args.script.now c.loop-index.out.items _ (omega (arith, c.loop-index-test.false, c.len-index-end.ensures))
    c.loop-index.invariant
