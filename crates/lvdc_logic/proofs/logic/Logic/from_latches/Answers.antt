-- No count of the list is above the most.
use Rattle.std.proofs.Common.{◌-◌, sym, ◌∙◌, subst}
use Rattle.lvdc_logic.specs.Logic.{DifferedAtMost}
use Rattle.lvdc_logic.proofs.Listed.{counts-most, each-most}
use Rattle.lvdc_logic.proofs.logic.Logic.from_latches.Goals as goal

pub returns-clause-differed : goal.returns-clause-differed
returns-clause-differed c most all =
    subst (DifferedAtMost most) (sym (c.of_copies.ensures.counts ∙ c.counts_of.ensures))
    (λ number copy. counts-most most c.args.counts.now (each-most most c.args.counts.now all) 0 7 (number - 1) (copy - 1))
