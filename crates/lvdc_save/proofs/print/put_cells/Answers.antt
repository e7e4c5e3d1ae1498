use Rattle.std.proofs.Common.{◌<◌, ◌^◌, All, subst}
use Rattle.std.proofs.lemmas.List.{take_all}
use Rattle.std.proofs.lemmas.List.Elements.{All-more}
use Rattle.lvdc_twin.specs.declared.held.Held.{Held}
use Rattle.lvdc_save.specs.declared.entry.Entry.TheVariants as says
use Rattle.lvdc_save.proofs.Texts.{entries_more, entries_done}
use Rattle.lvdc_save.proofs.print.put_cells.Goals as goal

pub loop-held-preserved : goal.loop-held-preserved
loop-held-preserved c = record {
  lines = entries_more says.Cell c.loop-held.held-index c.args.cells.now c.held-item.result c.loop-held.out.items c.put_held.new.out.items _
      c.loop-held-test.true c.held-item.is c.in_ok-put_held.ensures.line c.loop-held.invariant.lines;
  cells = All-more (λ (h : Held). h.cell < 2 ^ 28) c.args.cells.now c.loop-held.held-index c.held-item.result c.loop-held-test.true c.loop-held.invariant.cells
      (subst (λ (h : Held). h.cell < 2 ^ 28) c.held-item.is c.in_ok-put_held.ensures.cell);
}

pub returns-clause-lines : goal.returns-clause-lines
returns-clause-lines c =
    entries_done says.Cell c.loop-held.held-index c.args.cells.now c.loop-held.out.items _ c.loop-held-test.false c.loop-held.invariant.lines

pub returns-clause-cells : goal.returns-clause-cells
returns-clause-cells c = subst (All (λ (h : Held). h.cell < 2 ^ 28)) (take_all c.loop-held.held-index c.args.cells.now c.loop-held-test.false) c.loop-held.invariant.cells
