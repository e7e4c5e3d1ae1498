use Rattle.lvdc_laws_voted.proofs.PlainTimes.{step-leaves}
use Rattle.lvdc_laws_voted.proofs.ports_match.Goals as goal

pub returns : goal.returns
returns c = step-leaves
