use Rattle.std.proofs.Common.{◌≡◌, ◌-◌, ◌≤◌, length, vec_capacity}
use Rattle.lvdc_service.specs.Reading.{Uses}
use Rattle.lvdc_service.proofs.reader.Reader.input.Given as goal

-- the bytes that were used are the input so far
abbrev pub invariant-loop-input : goal.invariant-loop-input
invariant-loop-input g l = record {
  few : length l.input.items ≤ l.count;
  room : l.count ≤ vec_capacity l.input;
  uses : Uses l.initial.self (g.S.Source.state l.initial.source).left l.self (g.S.Source.state l.source).left l.input.items;
  quiet : (g.S.Source.state l.source).faults ≡ (g.S.Source.state l.initial.source).faults;
}

abbrev pub decreases-loop-input : goal.decreases-loop-input
decreases-loop-input g l = l.count - length l.input.items
