use Rattle.lvdc_laws_voted.proofs.Recovered.{reads-plain, holders-same}
use Rattle.lvdc_laws_voted.proofs.read_recovers.Goals as goal

pub returns-clause-read : goal.returns-clause-read
returns-clause-read c = reads-plain c.same_address.ensures c.banks_are_held.ensures.duplex c.survivor_is_read.ensures.one c.survivor_is_read.ensures.two

pub returns-clause-holders : goal.returns-clause-holders
returns-clause-holders c = holders-same c.banks_are_held.ensures.duplex
