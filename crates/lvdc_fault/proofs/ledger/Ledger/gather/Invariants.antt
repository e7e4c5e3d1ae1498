-- The words of the addresses so far are gathered.
use Rattle.std.proofs.Common.{◌*◌}
use Rattle.lvdc_fault.specs.Ledger.{GathersWords}
use Rattle.lvdc_fault.proofs.ledger.Ledger.gather.Given as goal

abbrev pub invariant-loop-number : goal.invariant-loop-number
invariant-loop-number l =
    GathersWords l.self.banks l.self.words (256 * l.sector) l.initial.placed.items → GathersWords l.self.banks l.self.words l.number l.placed.items
