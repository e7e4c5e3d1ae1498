use Rattle.std.proofs.Common.{◌≤◌, ◌-◌, length}
use Rattle.lvdc_service.proofs.Splitting.{HasNoSpace}
use Rattle.lvdc_service.proofs.parts.next_part.Given as goal

-- no space so far
abbrev pub invariant-loop-end : goal.invariant-loop-end
invariant-loop-end l = record {
  after : l.start ≤ l.end;
  within : l.end ≤ length l.line;
  no_space : HasNoSpace l.line l.start l.end;
}

abbrev pub decreases-loop-end : goal.decreases-loop-end
decreases-loop-end l = length l.line - l.end
