-- The cells of the slots so far are gathered.
use Rattle.std.proofs.Common.{◌*◌}
use Rattle.lvdc_twin.specs.Cells.{Gathers}
use Rattle.lvdc_twin.proofs.twins.Twins.gather.Given as goal

abbrev pub invariant-loop-slot : goal.invariant-loop-slot
invariant-loop-slot l = Gathers l.self.cells (256 * l.sector) l.initial.held.items → Gathers l.self.cells l.slot l.held.items
