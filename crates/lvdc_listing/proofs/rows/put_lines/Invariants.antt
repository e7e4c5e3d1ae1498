use Rattle.std.proofs.Common.{◌≡◌, ◌++◌, ◌≤◌, drop, length, map}
use Rattle.lvdc_map.specs.Memory.{memory_of}
use Rattle.lvdc_text.specs.Joined.{text_of}
use Rattle.lvdc_text.specs.Lines.{numbered}
use Rattle.lvdc_listing.specs.Listing.{placed_items, item_field}
use Rattle.lvdc_listing.specs.Rows.{line_rows}
use Rattle.lvdc_listing.proofs.rows.put_lines.Given as goal

abbrev pub invariant-loop-line : goal.invariant-loop-line
invariant-loop-line l = record {
  rows : l.out.items
      ++ text_of (line_rows (map (item_field (memory_of l.assembly.words)) (drop l.listed (placed_items l.assembly))) (numbered l.bytes (drop l.line-index l.lines)))
      ≡ l.initial.out.items ++ text_of (line_rows (map (item_field (memory_of l.assembly.words)) (placed_items l.assembly)) (numbered l.bytes l.lines));
  listed : l.listed ≤ length l.items;
}
