use Rattle.lvdc_laws_failures.proofs.Endings.{deceived-stores}
use Rattle.lvdc_laws_failures.proofs.deceived_exchange_stores_anything.Goals as goal

pub returns : goal.returns
returns c = deceived-stores
