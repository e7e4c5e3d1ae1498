use Rattle.std.proofs.Common.{◌∙◌, All, subst}
use Rattle.std.proofs.lemmas.List.{take_all}
use Rattle.std.proofs.lemmas.List.Elements.{All-more}
use Rattle.lvdc_image.specs.Image.{IsPlaced}
use Rattle.lvdc_image.proofs.Printing.{text_of-more}
use Rattle.lvdc_image.proofs.print.put_words.Goals as goal

pub loop-placed-preserved : goal.loop-placed-preserved
loop-placed-preserved c = record {
  lines =
      text_of-more c.loop-placed.out.items c.put_word.new.out.items c.args.words.now c.loop-placed.placed-index c.placed-item.result c.placed-item.result
      c.loop-placed-test.true c.placed-item.is c.in_ok-put_word.ensures.line
      ∙ c.loop-placed.invariant.lines;
  placed = All-more IsPlaced c.args.words.now c.loop-placed.placed-index c.placed-item.result c.loop-placed-test.true c.loop-placed.invariant.placed
      (subst IsPlaced c.placed-item.is c.in_ok-put_word.ensures.placed);
}

pub returns-clause-placed : goal.returns-clause-placed
returns-clause-placed c =
    subst (All IsPlaced) (take_all c.loop-placed.placed-index c.args.words.now c.loop-placed-test.false) c.loop-placed.invariant.placed
