-- A store of a word leaves the banks as they are.
use Rattle.std.proofs.Common.{rules}
use Rattle.lvdc_twin.proofs.Writes.{banks-after_write}
use Rattle.lvdc_twin.proofs.twins.Twins.write.Goals as goal

pub returns-clause-banks : goal.returns-clause-banks
returns-clause-banks c = search (rules, banks-after_write)
