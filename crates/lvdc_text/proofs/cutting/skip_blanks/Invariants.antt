use Rattle.std.proofs.Common.{◌≡◌, ◌≤◌, ◌-◌, length}
use Rattle.lvdc_text.specs.Lines.{tokens_left}
use Rattle.lvdc_text.proofs.cutting.skip_blanks.Given as goal

abbrev pub invariant-loop-at : goal.invariant-loop-at
invariant-loop-at l = record {
  after : l.start ≤ l.at;
  within : l.at ≤ length l.text;
  skipped : tokens_left l.start l.text ≡ tokens_left l.at l.text;
}

abbrev pub decreases-loop-at : goal.decreases-loop-at
decreases-loop-at l = length l.text - l.at
