use Rattle.lvdc_uplink.specs.Link.{link_to}
use Rattle.lvdc_uplink.specs.Heard.{nothing_heard}
use Rattle.lvdc_uplink.proofs.AsHeard.{from-nothing, texts-heard, texts-held}
use Rattle.lvdc_uplink.proofs.laws.lines_are_heard.Goals as goal

pub returns-clause-heard : goal.returns-clause-heard
returns-clause-heard c image texts = texts-heard texts image nothing_heard (link_to image) (from-nothing image)

pub returns-clause-held : goal.returns-clause-held
returns-clause-held c image texts = texts-held texts image nothing_heard (link_to image) (from-nothing image)
