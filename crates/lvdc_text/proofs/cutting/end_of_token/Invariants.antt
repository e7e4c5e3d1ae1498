use Rattle.std.proofs.Common.{◌≡◌, ◌<◌, ◌≤◌, ◌-◌, length, take, drop, true}
use Rattle.std.specs.List.{list_all}
use Rattle.lvdc_text.specs.Lines.{is_blank}
use Rattle.lvdc_text.proofs.FirstParts.{goes_on}
use Rattle.lvdc_text.proofs.cutting.end_of_token.Given as goal

abbrev pub invariant-loop-end : goal.invariant-loop-end
invariant-loop-end l = record {
  after : l.start < l.end;
  within : l.end ≤ length l.text;
  token : list_all (goes_on is_blank) (take (l.end - l.start) (drop l.start l.text)) ≡ true;
}

abbrev pub decreases-loop-end : goal.decreases-loop-end
decreases-loop-end l = length l.text - l.end
