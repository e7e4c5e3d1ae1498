use Rattle.std.proofs.Common.{arith}
use Rattle.lvdc_machine.proofs.machine.Machine.differed.Goals as goal

pub returns-clause-few : goal.returns-clause-few
returns-clause-few c =
    omega (arith, c.self.invariant.differed c.args.number c.args.copy, c.self.invariant.steps, c.self.invariant.limit, c.differed.ensures)
