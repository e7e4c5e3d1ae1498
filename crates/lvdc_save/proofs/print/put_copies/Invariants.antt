use Rattle.std.proofs.Common.{◌≡◌, ℕ, ◌<◌, ◌++◌, map}
use Rattle.std.specs.List.{range_with_len}
use Rattle.lvdc_lines.specs.Noted.{lines_of}
use Rattle.lvdc_save.specs.declared.entry.Entry.TheVariants as says
use Rattle.lvdc_save.specs.Lines.{entry_line}
use Rattle.lvdc_save.specs.Saved.{latches_before, copy_state}
use Rattle.lvdc_save.proofs.AllPrinted.{HasWords}
use Rattle.lvdc_save.proofs.print.put_copies.Given as goal

abbrev pub invariant-loop-index : goal.invariant-loop-index
invariant-loop-index l = record {
  lines : l.out.items ≡ l.initial.out.items ++ lines_of entry_line (map (λ index. says.Copy (copy_state l.snapshot index)) (range_with_len 0 l.index));
  latches : (i : ℕ) → i < l.index → HasWords l.snapshot i;
  from : l.from ≡ latches_before l.index;
}
