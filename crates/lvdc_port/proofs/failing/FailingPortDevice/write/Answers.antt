use Rattle.std.proofs.Common.{subst}
use Rattle.lvdc_port.specs.Causes.{Rose}
use Rattle.lvdc_port.proofs.failing.FailingPortDevice.write.Goals as goal

pub returns-then-is_due-clause-cause : goal.returns-then-is_due-clause-cause
returns-then-is_due-clause-cause g c =
    record { failed = subst (λ count. Rose count c.fail.new.self.faults) c.is_due.ensures.faults c.fail.ensures.rose; answered = tt }

pub returns-in-Err-clause-cause : goal.returns-in-Err-clause-cause
returns-in-Err-clause-cause g c =
    record { failed = subst (λ count. Rose count c.fail-in-Err.new.self.faults) c.is_due.ensures.faults c.fail-in-Err.ensures.rose; answered = tt }
