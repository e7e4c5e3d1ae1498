use Rattle.lvdc_uplink.specs.Link.{link_to}
use Rattle.lvdc_uplink.proofs.Sound.{above-from}
use Rattle.lvdc_uplink.proofs.laws.committed_once.Goals as goal

pub returns : goal.returns
returns c image texts = above-from texts (link_to image) tt
