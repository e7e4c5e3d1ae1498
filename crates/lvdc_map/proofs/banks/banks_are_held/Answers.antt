use Rattle.lvdc_map.proofs.Holders.{holds_duplex, there_bank}
use Rattle.lvdc_map.proofs.banks.banks_are_held.Goals as goal

pub returns-clause-there : goal.returns-clause-there
returns-clause-there c = there_bank

pub returns-clause-duplex : goal.returns-clause-duplex
returns-clause-duplex c = holds_duplex
