use Rattle.std.proofs.Common.{refl}
use Rattle.lvdc_mul.proofs.Phases.{afterwards}
use Rattle.lvdc_mul.proofs.Quotients.{divide-lands}
use Rattle.lvdc_mul.specs.Unit.{issued_divide}
use Rattle.lvdc_mul.proofs.landing.divide_lands.Goals as goal

pub returns-clause-lands : goal.returns-clause-lands
returns-clause-lands c = λ a m a_small small. divide-lands a m _ refl a_small small

pub returns-clause-kind : goal.returns-clause-kind
returns-clause-kind c = λ a m n. (afterwards n (issued_divide a m) refl).kind
