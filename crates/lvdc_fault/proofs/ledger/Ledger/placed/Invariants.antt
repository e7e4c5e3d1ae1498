-- The words of the sectors so far are gathered.
use Rattle.std.proofs.Common.{◌*◌}
use Rattle.lvdc_fault.specs.Ledger.{GathersWords}
use Rattle.lvdc_fault.proofs.ledger.Ledger.placed.Given as goal

abbrev pub invariant-loop-sector : goal.invariant-loop-sector
invariant-loop-sector l = GathersWords l.self.banks l.self.words (256 * l.sector) l.placed.items
