use Rattle.std.proofs.Common.{ℕ, List, sym, subst}
use Rattle.lvdc_service.proofs.Serving.{SoFar, at_first, goes_on, enough, at_end}
use Rattle.lvdc_service.proofs.service.serve.Goals as goal

pub loop-number-init : goal.loop-number-init
loop-number-init g c =
    let source = g.S.Source.state c.args.source.now in
    let sink = g.K.Sink.state c.args.sink.now in
    subst (λ (held : List ℕ). SoFar source source held sink sink 0) (sym c.new-reader.ensures) (at_first source sink c.requires)

pub loop-number-preserved : goal.loop-number-preserved
loop-number-preserved g c = goes_on c.loop-number-test.true c.loop-number.invariant c.in-None.ensures

pub returns-in-Some : goal.returns-in-Some
returns-in-Some g c = at_end c.loop-number-test.true c.loop-number.invariant c.in-Some.ensures

pub returns : goal.returns
returns g c = enough c.loop-number-test.false c.loop-number.invariant
