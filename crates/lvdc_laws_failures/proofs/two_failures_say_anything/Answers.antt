use Rattle.lvdc_laws_failures.proofs.Endings.{liars-say}
use Rattle.lvdc_laws_failures.proofs.two_failures_say_anything.Goals as goal

pub returns : goal.returns
returns c = liars-say
