-- The cells of the sectors so far are gathered.
use Rattle.std.proofs.Common.{◌*◌}
use Rattle.lvdc_twin.specs.Cells.{Gathers}
use Rattle.lvdc_twin.proofs.twins.Twins.held.Given as goal

abbrev pub invariant-loop-sector : goal.invariant-loop-sector
invariant-loop-sector l = Gathers l.self.cells (256 * l.sector) l.held.items
