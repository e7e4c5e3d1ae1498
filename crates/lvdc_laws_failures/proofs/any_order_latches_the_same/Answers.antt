use Rattle.lvdc_laws_failures.proofs.AnyOrder.{any-order}
use Rattle.lvdc_laws_failures.proofs.any_order_latches_the_same.Goals as goal

pub returns : goal.returns
returns c = any-order
