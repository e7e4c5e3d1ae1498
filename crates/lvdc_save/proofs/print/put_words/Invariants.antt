use Rattle.std.proofs.Common.{◌≡◌, ◌++◌, All, map, drop, take}
use Rattle.lvdc_image.specs.Image.{IsPlaced}
use Rattle.lvdc_lines.specs.Noted.{lines_of}
use Rattle.lvdc_save.specs.declared.entry.Entry.TheVariants as says
use Rattle.lvdc_save.specs.Lines.{entry_line}
use Rattle.lvdc_save.proofs.print.put_words.Given as goal

abbrev pub invariant-loop-placed : goal.invariant-loop-placed
invariant-loop-placed l = record {
  lines : l.out.items ++ lines_of entry_line (map says.Word (drop l.placed-index l.words)) ≡ l.initial.out.items ++ lines_of entry_line (map says.Word l.words);
  placed : All IsPlaced (take l.placed-index l.words);
}
