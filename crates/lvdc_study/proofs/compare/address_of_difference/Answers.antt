use Rattle.std.proofs.Common.{◌*◌}
use Rattle.lvdc_model.specs.Runs.{through}
use Rattle.lvdc_model.specs.Trial.{plain_at}
use Rattle.lvdc_study.proofs.Least.{least-none}
use Rattle.lvdc_study.proofs.compare.address_of_difference.Goals as goal

pub loop-sector-init : goal.loop-sector-init
loop-sector-init c = λ o times h p. least-none o.opening.banks (through o (3 * times)).intended (plain_at o times).memory
