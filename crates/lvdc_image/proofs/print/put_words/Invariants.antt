use Rattle.std.proofs.Common.{◌≡◌, ◌++◌, drop, take, map, All}
use Rattle.lvdc_image.specs.Image.{IsPlaced, word_line, text_of}
use Rattle.lvdc_image.proofs.print.put_words.Given as goal

abbrev pub invariant-loop-placed : goal.invariant-loop-placed
invariant-loop-placed l = record {
  lines : l.out.items ++ text_of (map word_line (drop l.placed-index l.words)) ≡ l.initial.out.items ++ text_of (map word_line l.words);
  placed : All IsPlaced (take l.placed-index l.words);
}
