use Rattle.std.proofs.Common.{arith}
use Rattle.lvdc_machine.proofs.Making.{few-logged}
use Rattle.lvdc_machine.proofs.machine.Machine.log.Goals as goal

pub returns-clause-few : goal.returns-clause-few
returns-clause-few c = λ own.
    let few = few-logged c.self.inside.pace c.self.inside.limit c.self.inside.steps _ (c.self.invariant.log (rw (← c.self.view_is) at own)) c.self.invariant.limit in omega (arith, few, c.deref.ensures.len)
