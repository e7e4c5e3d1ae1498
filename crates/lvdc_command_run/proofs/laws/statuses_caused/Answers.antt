use Rattle.std.proofs.Common.{arith}
use Rattle.lvdc_command_run.specs.Runs.{Judges, Stops}
use Rattle.lvdc_command_run.proofs.Statuses.{status-judges, judges-status, status-stops, stops-status}
use Rattle.lvdc_command_run.proofs.Jobs.{job_has, job_is}
use Rattle.lvdc_command_run.proofs.laws.statuses_caused.Goals as goal

pub returns-clause-inadmissible : goal.returns-clause-inadmissible
returns-clause-inadmissible c = job_has Judges 5 (λ r. omega (arith, r)) status-judges

pub returns-clause-inadmissible_always : goal.returns-clause-inadmissible_always
returns-clause-inadmissible_always c = job_is Judges 5 judges-status

pub returns-clause-stopped : goal.returns-clause-stopped
returns-clause-stopped c = job_has Stops 6 (λ r. omega (arith, r)) status-stops

pub returns-clause-stopped_always : goal.returns-clause-stopped_always
returns-clause-stopped_always c = job_is Stops 6 stops-status
