use Rattle.std.proofs.Common.{refl}
use Rattle.lvdc_mul.proofs.Phases.{lands-never}
use Rattle.lvdc_mul.proofs.unit.Unit.cancel.Goals as goal

pub returns-clause-lands : goal.returns-clause-lands
returns-clause-lands c = lands-never _ refl
