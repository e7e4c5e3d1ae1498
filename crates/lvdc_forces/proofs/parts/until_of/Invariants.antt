use Rattle.std.proofs.Common.{◌-◌, ◌≤◌, ◌<◌, take, drop, All}
use Rattle.lvdc_forces.specs.Parts.{StaysUntil}
use Rattle.lvdc_forces.proofs.parts.until_of.Given as goal

abbrev pub invariant-loop-position : goal.invariant-loop-position
invariant-loop-position l =
    record {
      from : l.from ≤ l.position;
      later : l.step < l.until;
      stays : All (StaysUntil l.step l.until) (take (l.position - l.from) (drop l.from l.script));
    }
