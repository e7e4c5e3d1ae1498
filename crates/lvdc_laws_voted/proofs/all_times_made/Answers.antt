use Rattle.lvdc_laws_voted.proofs.PlainRuns.{times-count}
use Rattle.lvdc_laws_voted.proofs.all_times_made.Goals as goal

pub returns : goal.returns
returns c = times-count c.ports_match.ensures
