use Rattle.lvdc_laws_runs.proofs.Runs.{guarded-same, alone-same, through-same}
use Rattle.lvdc_laws_runs.proofs.early.runs_begin_fault_free.Goals as goal

pub returns : goal.returns
returns c = record { guarded = guarded-same; alone = alone-same; through = through-same }
