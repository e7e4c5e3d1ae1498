use Rattle.lvdc_study.proofs.Waypointed.{ok-and}
use Rattle.lvdc_study.proofs.apart.row_along.Goals as goal

pub returns-then-goes_along : goal.returns-then-goes_along
returns-then-goes_along g c =
    ok-and _ c.args.made.now c.in-Ok.machine c.in-Ok.is
    (λ p script count at within ran later good stands. record {
      machine = c.goes_along.new.machine;
      replayed = c.goes_along.ensures.replayed c.if-goes_along.true p script count at within ran later good stands;
      told = c.row_with.ensures;
    })
