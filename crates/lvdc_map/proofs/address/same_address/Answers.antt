use Rattle.lvdc_map.proofs.Addresses.{same-spot}
use Rattle.lvdc_map.proofs.address.same_address.Goals as goal

pub returns : goal.returns
returns c = same-spot
