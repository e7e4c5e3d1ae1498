use Rattle.lvdc_study.proofs.Making.{answer-within}
use Rattle.lvdc_study.proofs.late.run_late.Goals as goal

pub returns-in-Some-clause-fails : goal.returns-in-Some-clause-fails
returns-in-Some-clause-fails g c = answer-within _ c.args.times c.args.program.now.count c.requires.within c.run_from.result c.run_from.ensures.fails

pub returns-in-None-clause-fails : goal.returns-in-None-clause-fails
returns-in-None-clause-fails g c = answer-within _ c.args.times c.args.program.now.count c.requires.within c.run_script.result c.run_script.ensures.fails
