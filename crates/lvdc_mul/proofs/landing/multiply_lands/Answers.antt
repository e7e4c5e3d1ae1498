use Rattle.std.proofs.Common.{refl}
use Rattle.lvdc_mul.proofs.Products.{multiply-lands, multiply-kind}
use Rattle.lvdc_mul.proofs.landing.multiply_lands.Goals as goal

pub returns-clause-lands : goal.returns-clause-lands
returns-clause-lands c = λ a m high a_small small. multiply-lands a m high _ refl a_small small

pub returns-clause-kind : goal.returns-clause-kind
returns-clause-kind c = multiply-kind
