use Rattle.lvdc_laws_failures.proofs.Masking.{masked, heard-plain, begun-plain}
use Rattle.lvdc_laws_failures.proofs.any_failure_is_masked.Goals as goal

pub returns-clause-masked : goal.returns-clause-masked
returns-clause-masked c = masked (record { votes = c.copies_agree.ensures.votes; copies = c.copies_agree.ensures.latch; comes = c.guarded_run.ensures })

pub returns-clause-heard : goal.returns-clause-heard
returns-clause-heard c = heard-plain (record { votes = c.copies_agree.ensures.votes; copies = c.copies_agree.ensures.latch; comes = c.guarded_run.ensures })

pub returns-clause-exchange : goal.returns-clause-exchange
returns-clause-exchange c =
    begun-plain (record { votes = c.copies_agree.ensures.votes; copies = c.copies_agree.ensures.latch; comes = c.guarded_run.ensures }) c.step_begun.ensures
