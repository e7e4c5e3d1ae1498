use Rattle.std.proofs.Common.{◌-◌, sym, subst}
use Rattle.lvdc_logic.specs.Logic.{DifferedAtMost}
use Rattle.lvdc_logic.proofs.Alike.{alike_voted}
use Rattle.lvdc_logic.proofs.Differing.{none_differed}
use Rattle.lvdc_logic.proofs.logic.Logic.new.Goals as goal

pub returns-clause-differed : goal.returns-clause-differed
returns-clause-differed c = subst (DifferedAtMost 0) (sym c.none.ensures) (λ number copy. none_differed 7 (number - 1) (copy - 1))

pub invariant_of-result : goal.invariant_of-result
invariant_of-result c = alike_voted c.bus_at_start-bus.result c.bus_at_start-bus.ensures.memory c.bus_at_start-bus.ensures.port
