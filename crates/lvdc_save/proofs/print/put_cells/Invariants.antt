use Rattle.std.proofs.Common.{◌≡◌, ◌<◌, ◌^◌, ◌++◌, All, map, drop, take}
use Rattle.lvdc_twin.specs.declared.held.Held.{Held}
use Rattle.lvdc_lines.specs.Noted.{lines_of}
use Rattle.lvdc_save.specs.declared.entry.Entry.TheVariants as says
use Rattle.lvdc_save.specs.Lines.{entry_line}
use Rattle.lvdc_save.proofs.print.put_cells.Given as goal

abbrev pub invariant-loop-held : goal.invariant-loop-held
invariant-loop-held l = record {
  lines : l.out.items ++ lines_of entry_line (map says.Cell (drop l.held-index l.cells)) ≡ l.initial.out.items ++ lines_of entry_line (map says.Cell l.cells);
  cells : All (λ (h : Held). h.cell < 2 ^ 28) (take l.held-index l.cells);
}
