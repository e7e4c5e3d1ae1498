use Rattle.std.proofs.Common.{ℕ, ◌∙◌, ap, sym}
use Rattle.lvdc_model.specs.Judging.{is_recoverable_after}
use Rattle.lvdc_laws_failures.proofs.Plainly.{times-plain, known-same}
use Rattle.lvdc_laws_failures.proofs.account_is_plain.Goals as goal

pub returns-clause-times : goal.returns-clause-times
returns-clause-times c o a ok times good one = times-plain o a times (c.any_failure_is_masked.ensures.masked o a ok _ good one) (c.guarded_times.ensures o ok times good)

pub returns-clause-end : goal.returns-clause-end
returns-clause-end c o a ok times good one = (c.any_failure_is_masked.ensures.masked o a ok _ good one).same.end ∙ c.guarded_ends.ensures.end o ok times good

pub returns-clause-steps : goal.returns-clause-steps
returns-clause-steps c o a ok times good one = (c.any_failure_is_masked.ensures.masked o a ok _ good one).same.steps ∙ c.guarded_ends.ensures.steps o ok times good

pub returns-clause-known : goal.returns-clause-known
returns-clause-known c o a ok n good one at bank =
    let m = c.any_failure_is_masked.ensures.masked o a ok n good one in
    known-same o a n at m ∙ c.words_known.ensures.made o ok n good at bank ∙ sym (ap (λ (steps : ℕ). is_recoverable_after o steps at) m.same.steps)
