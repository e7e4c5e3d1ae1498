use Rattle.std.proofs.Common.{arith}
use Rattle.lvdc_machine.proofs.Making.{few-noted}
use Rattle.lvdc_machine.proofs.machine.Machine.repairs.Goals as goal

pub returns-clause-few : goal.returns-clause-few
returns-clause-few c =
    let few = few-noted c.self.inside.pace c.self.inside.limit c.self.inside.steps _ c.self.invariant.repairs c.self.invariant.limit in omega (arith, few, c.deref.ensures.len)
