use Rattle.lvdc_uplink.proofs.AsHeard.{from-nothing}
use Rattle.lvdc_uplink.proofs.uplink.Uplink.new.Goals as goal

pub returns-clause-heard : goal.returns-clause-heard
returns-clause-heard c = from-nothing c.args.image
