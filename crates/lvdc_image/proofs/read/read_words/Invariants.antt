use Rattle.std.proofs.Common.{◌≡◌, drop}
use Rattle.lvdc_text.specs.Lines.{numbered}
use Rattle.lvdc_image.specs.Reading.{words_from}
use Rattle.lvdc_image.proofs.WordLines.{with_words}
use Rattle.lvdc_image.proofs.read.read_words.Given as goal

abbrev pub invariant-loop-index : goal.invariant-loop-index
invariant-loop-index l =
    with_words l.words.items (words_from l.banks l.least l.next (numbered l.bytes (drop l.index l.lines)))
    ≡ words_from l.banks 0 l.initial.next (numbered l.bytes l.lines)
