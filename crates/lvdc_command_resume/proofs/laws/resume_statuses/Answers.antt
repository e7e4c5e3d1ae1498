use Rattle.std.proofs.Common.{refl, inl, inr}
use Rattle.lvdc_command_run.specs.Runs.{IsStop}
use Rattle.lvdc_command_resume.specs.Statuses.{IsInadmissible}
use Rattle.lvdc_command_resume.proofs.Statuses.{bad-end, end-bad, stop-of-end, end-of-stop, resume_has, resume_with}
use Rattle.lvdc_command_resume.proofs.laws.resume_statuses.Goals as goal

pub returns-clause-inadmissible : goal.returns-clause-inadmissible
returns-clause-inadmissible c = resume_has IsInadmissible 5 (inl refl) bad-end

pub returns-clause-inadmissible_always : goal.returns-clause-inadmissible_always
returns-clause-inadmissible_always c = resume_with IsInadmissible 5 end-bad

pub returns-clause-stopped : goal.returns-clause-stopped
returns-clause-stopped c = resume_has IsStop 6 (inr refl) stop-of-end

pub returns-clause-stopped_always : goal.returns-clause-stopped_always
returns-clause-stopped_always c = resume_with IsStop 6 end-of-stop
