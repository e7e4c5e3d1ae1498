use Rattle.std.proofs.Common.{◌≡◌, ◌+◌, ◌-◌, ◌≤◌, ◌++◌, take, drop, true}
use Rattle.std.specs.List.{list_all, slice_split}
use Rattle.lvdc_text.specs.Lines.{is_line_feed, lines_from, lines_of}
use Rattle.lvdc_text.proofs.FirstParts.{goes_on}
use Rattle.lvdc_text.proofs.cutting.cut_lines.Given as goal

-- the lines so far, and no LF from the start of the next one
abbrev pub invariant-loop-at : goal.invariant-loop-at
invariant-loop-at l = record {
  in_order : l.start ≤ l.at;
  numbered : l.number ≤ l.at + 1;
  open_line : list_all (goes_on is_line_feed) (take (l.at - l.start) (drop l.start l.bytes)) ≡ true;
  split : l.lines.items ++ lines_from l.number l.start (slice_split is_line_feed (drop l.start l.bytes)) ≡ lines_of l.bytes;
}
