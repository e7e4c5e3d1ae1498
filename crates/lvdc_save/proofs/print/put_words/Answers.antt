use Rattle.std.proofs.Common.{All, subst}
use Rattle.std.proofs.lemmas.List.{take_all}
use Rattle.std.proofs.lemmas.List.Elements.{All-more}
use Rattle.lvdc_image.specs.Image.{IsPlaced}
use Rattle.lvdc_save.specs.declared.entry.Entry.TheVariants as says
use Rattle.lvdc_save.proofs.Texts.{entries_more, entries_done}
use Rattle.lvdc_save.proofs.print.put_words.Goals as goal

pub loop-placed-preserved : goal.loop-placed-preserved
loop-placed-preserved c = record {
  lines = entries_more says.Word c.loop-placed.placed-index c.args.words.now c.placed-item.result c.loop-placed.out.items c.put_placed.new.out.items _
      c.loop-placed-test.true c.placed-item.is c.in_ok-put_placed.ensures.line c.loop-placed.invariant.lines;
  placed = All-more IsPlaced c.args.words.now c.loop-placed.placed-index c.placed-item.result c.loop-placed-test.true c.loop-placed.invariant.placed
      (subst IsPlaced c.placed-item.is c.in_ok-put_placed.ensures.placed);
}

pub returns-clause-lines : goal.returns-clause-lines
returns-clause-lines c =
    entries_done says.Word c.loop-placed.placed-index c.args.words.now c.loop-placed.out.items _ c.loop-placed-test.false c.loop-placed.invariant.lines

pub returns-clause-placed : goal.returns-clause-placed
returns-clause-placed c = subst (All IsPlaced) (take_all c.loop-placed.placed-index c.args.words.now c.loop-placed-test.false) c.loop-placed.invariant.placed
