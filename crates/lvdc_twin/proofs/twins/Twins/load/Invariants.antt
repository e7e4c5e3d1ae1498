-- So far the words of the first placed ones are stored.
use Rattle.std.proofs.Common.{take}
use Rattle.lvdc_twin.specs.Calls.{Begins}
use Rattle.lvdc_twin.proofs.twins.Twins.load.Given as goal

abbrev pub invariant-loop-placed : goal.invariant-loop-placed
invariant-loop-placed l = Begins l.initial.self.banks (take l.placed-index l.image) l.self
