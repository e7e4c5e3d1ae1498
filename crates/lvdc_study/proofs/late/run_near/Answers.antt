use Rattle.lvdc_study.proofs.Making.{answer-within}
use Rattle.lvdc_study.proofs.late.run_near.Goals as goal

pub returns-then-waypoints-at-eq0-clause-fails : goal.returns-then-waypoints-at-eq0-clause-fails
returns-then-waypoints-at-eq0-clause-fails g c =
    answer-within _ c.args.times c.args.program.now.count c.requires.within c.run_from.result c.run_from.ensures.fails
