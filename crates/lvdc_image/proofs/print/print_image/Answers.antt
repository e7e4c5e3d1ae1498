use Rattle.std.proofs.Common.{ℕ, is_ok, ap, length, arith, length-append}
use Rattle.std.proofs.ResultArms.{chosen}
use Rattle.lvdc_text.specs.Lines.{lines_of, numbered}
use Rattle.lvdc_image.proofs.Sizes.{length-head, length-words, few-words}
use Rattle.lvdc_image.proofs.Printing.{image_text-parts}
use Rattle.lvdc_image.proofs.ImageBack.{image_of-printed}
use Rattle.lvdc_image.proofs.TextBack.{texts-image_text}
use Rattle.lvdc_image.proofs.print.print_image.Goals as goal

pub returns-clause-text : goal.returns-clause-text
returns-clause-text c =
    image_text-parts c.args.image.now c.start.result c.banks.result c.words.result.now c.new-out.result.items c.put_head.new.out.items c.put_words.new.out.items _
    c.start.ensures.start c.banks.ensures c.words.ensures.words c.new-out.ensures.items c.in_ok-put_head.ensures.lines c.in_ok-put_words.ensures.lines
    (chosen _ _ _ _ c.extend_from_slice.ensures.items (ap is_ok c.in_ok-extend_from_slice.was))

pub returns-clause-lines : goal.returns-clause-lines
returns-clause-lines c =
    image_of-printed c.args.image.now c.start.result c.banks.result c.words.result.now c.start.ensures.start c.banks.ensures c.words.ensures.words
    c.words.ensures.rising c.words.ensures.there c.start.ensures.duplex c.in_ok-put_words.ensures.placed c.in_ok-put_head.ensures.start c.in_ok-put_head.ensures.banks

pub returns-clause-back : goal.returns-clause-back
returns-clause-back c =
    returns-clause-lines c (numbered c.extend_from_slice.new.self.items (lines_of c.extend_from_slice.new.self.items))
    (texts-image_text c.extend_from_slice.new.self.items c.args.image.now (returns-clause-text c))

pub returns-clause-short : goal.returns-clause-short
returns-clause-short c =
    omega (
      arith,
      length-append {A = ℕ},
      ap length c.new-out.ensures.items,
      ap length c.in_ok-put_head.ensures.lines,
      length-head c.start.result c.banks.result,
      ap length c.in_ok-put_words.ensures.lines,
      length-words c.words.result.now,
      few-words c.words.result.now c.words.ensures.rising c.in_ok-put_words.ensures.placed,
      ap length (chosen _ _ _ _ c.extend_from_slice.ensures.items (ap is_ok c.in_ok-extend_from_slice.was)),
    )
