use Rattle.std.proofs.Common.{◌≡◌, ℕ, ◌<◌, ◌≤◌, false, length, get_or}
use Rattle.lvdc_text.specs.Headings.{is_alone}
use Rattle.lvdc_text.specs.Lines.{part_of}
use Rattle.lvdc_text.specs.declared.cutting.Line.{Line}
use Rattle.lvdc_text.proofs.headings.place_of.Given as goal

-- what an index past the end reads
abbrev pub no_line : Line
no_line = record { number = 0; start = 0; end = 0 }

abbrev pub invariant-loop-at : goal.invariant-loop-at
invariant-loop-at l = record {
  within : l.at ≤ length l.lines;
  before : (k : ℕ) → k < l.at → is_alone l.word (part_of l.bytes (get_or l.lines k no_line)) ≡ false;
}
