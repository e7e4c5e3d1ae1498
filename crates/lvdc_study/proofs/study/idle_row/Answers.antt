use Rattle.std.proofs.Common.{refl}
use Rattle.lvdc_report.specs.Voted.{counts_below}
use Rattle.lvdc_study.proofs.study.idle_row.Goals as goal

pub returns : goal.returns
unfolding counts_below
returns c = refl
