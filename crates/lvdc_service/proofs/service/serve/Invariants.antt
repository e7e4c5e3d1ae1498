use Rattle.std.proofs.Common.{◌-◌}
use Rattle.lvdc_service.proofs.Serving.{SoFar}
use Rattle.lvdc_service.proofs.service.serve.Given as goal

-- so many frames were used and answered
abbrev pub invariant-loop-number : goal.invariant-loop-number
invariant-loop-number g l =
    SoFar (g.S.Source.state l.fn.source) (g.S.Source.state l.source)
    l.reader (g.K.Sink.state l.fn.sink)
    (g.K.Sink.state l.sink) l.number

abbrev pub decreases-loop-number : goal.decreases-loop-number
decreases-loop-number g l = 4294967295 - l.number
