use Rattle.std.proofs.Common.{◌∙◌}
use Rattle.lvdc_plain.specs.Run.{run}
use Rattle.lvdc_plain.proofs.Runs.{run_from-add, run_from-stopped}
use Rattle.lvdc_plain.proofs.laws.stopped_run_stays.Goals as goal

pub returns : goal.returns
returns c o times more stop e = run_from-add o.unplugs (run o 0) times more ∙ run_from-stopped o.unplugs (run o times) stop more e
