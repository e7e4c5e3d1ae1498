use Rattle.lvdc_command_run.proofs.Jobs.{job-headline}
use Rattle.lvdc_command_run.proofs.laws.headline_told.Goals as goal

pub returns : goal.returns
returns c = job-headline
