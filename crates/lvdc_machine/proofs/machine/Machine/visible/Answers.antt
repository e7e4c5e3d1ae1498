use Rattle.std.proofs.Common.{ap, arith}
use Rattle.lvdc_plain.specs.declared.records.Visible.{Visible}
use Rattle.lvdc_machine.proofs.machine.Machine.visible.Goals as goal

pub returns-clause-few : goal.returns-clause-few
returns-clause-few c =
    omega (arith, c.self.invariant.steps, c.self.invariant.limit, ap (λ (v : Visible). v.times) c.registers_on.ensures)
