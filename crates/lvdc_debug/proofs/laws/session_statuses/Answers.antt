use Rattle.std.proofs.Common.{arith}
use Rattle.lvdc_command_run.specs.Runs.{Judges, Stops}
use Rattle.lvdc_command_run.specs.declared.job.Engine.TheVariants.{Guarded}
use Rattle.lvdc_command_run.specs.declared.job.Job.TheVariants as job
use Rattle.lvdc_debug.proofs.Statuses.{session_has, session_with, status-judged, judged-status, status-stopped, stopped-status}
use Rattle.lvdc_debug.proofs.laws.session_statuses.Goals as goal

pub returns-clause-inadmissible : goal.returns-clause-inadmissible
returns-clause-inadmissible c = session_has (Judges (job.Deck Guarded)) 5 (λ r. omega (arith, r)) status-judged

pub returns-clause-inadmissible_always : goal.returns-clause-inadmissible_always
returns-clause-inadmissible_always c = session_with (Judges (job.Deck Guarded)) 5 judged-status

pub returns-clause-stopped : goal.returns-clause-stopped
returns-clause-stopped c = session_has (Stops (job.Deck Guarded)) 6 (λ r. omega (arith, r)) status-stopped

pub returns-clause-stopped_always : goal.returns-clause-stopped_always
returns-clause-stopped_always c = session_with (Stops (job.Deck Guarded)) 6 stopped-status
