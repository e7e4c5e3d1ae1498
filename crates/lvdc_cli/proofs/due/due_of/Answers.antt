use Rattle.std.proofs.Common.{refl}
use Rattle.lvdc_cli.specs.Top.{usage}
use Rattle.lvdc_cli.proofs.due.due_of.Goals as goal

pub returns-in-Some-clause-due : goal.returns-in-Some-clause-due
returns-in-Some-clause-due g c = λ before after. c.due_for.ensures.due _ before after (cc)

pub returns-in-None-clause-due : goal.returns-in-None-clause-due
returns-in-None-clause-due g c = λ before after. usage (cc) refl refl
