use Rattle.std.proofs.Common.{refl, inl, inr}
use Rattle.lvdc_command_run.proofs.Statuses.{status-judges, judges-status, status-stops, stops-status}
use Rattle.lvdc_command_run.specs.Runs.{Judges, Stops}
use Rattle.lvdc_command_run.specs.declared.job.Engine.TheVariants.{Guarded}
use Rattle.lvdc_command_run.specs.declared.job.Job.TheVariants as job
use Rattle.lvdc_command_save.proofs.Statuses.{save_has, save_with}
use Rattle.lvdc_command_save.proofs.laws.save_statuses.Goals as goal

pub returns-clause-inadmissible : goal.returns-clause-inadmissible
returns-clause-inadmissible c = save_has (Judges (job.Deck Guarded)) 5 (inl refl) (status-judges (job.Deck Guarded))

pub returns-clause-inadmissible_always : goal.returns-clause-inadmissible_always
returns-clause-inadmissible_always c = save_with (Judges (job.Deck Guarded)) 5 (judges-status (job.Deck Guarded))

pub returns-clause-stopped : goal.returns-clause-stopped
returns-clause-stopped c = save_has (Stops (job.Deck Guarded)) 6 (inr refl) (status-stops (job.Deck Guarded))

pub returns-clause-stopped_always : goal.returns-clause-stopped_always
returns-clause-stopped_always c = save_with (Stops (job.Deck Guarded)) 6 (stops-status (job.Deck Guarded))
