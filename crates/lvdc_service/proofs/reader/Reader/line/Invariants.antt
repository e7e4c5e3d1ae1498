use Rattle.std.proofs.Common.{◌≡◌, ◌-◌, ◌≤◌, length}
use Rattle.lvdc_service.specs.Reading.{Uses}
use Rattle.lvdc_service.proofs.CutLines.{HasNoFeed}
use Rattle.lvdc_service.proofs.reader.Reader.line.Given as goal

-- the bytes that were used are the line so far
abbrev pub invariant-loop-byte : goal.invariant-loop-byte
invariant-loop-byte g l = record {
  few : length l.line.items ≤ 255;
  no_feed : HasNoFeed l.line.items;
  uses : Uses l.initial.self (g.S.Source.state l.initial.source).left l.self (g.S.Source.state l.source).left l.line.items;
  quiet : (g.S.Source.state l.source).faults ≡ (g.S.Source.state l.initial.source).faults;
}

abbrev pub decreases-loop-byte : goal.decreases-loop-byte
decreases-loop-byte g l = 256 - length l.line.items
