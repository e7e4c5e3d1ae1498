use Rattle.std.proofs.Common.{◌≡◌, ◌+◌, ℕ, List, length}
use Rattle.lvdc_service.specs.Reading.{Uses}
use Rattle.lvdc_service.proofs.reader.Reader.skip.Given as goal

-- as many bytes were used as the rest lacks
abbrev pub invariant-loop-rest : goal.invariant-loop-rest
invariant-loop-rest g l = record {
  used : List ℕ;
  so_many : length used + l.rest ≡ l.count;
  uses : Uses l.initial.self (g.S.Source.state l.initial.source).left l.self (g.S.Source.state l.source).left used;
  quiet : (g.S.Source.state l.source).faults ≡ (g.S.Source.state l.initial.source).faults;
}

abbrev pub decreases-loop-rest : goal.decreases-loop-rest
decreases-loop-rest g l = l.rest
