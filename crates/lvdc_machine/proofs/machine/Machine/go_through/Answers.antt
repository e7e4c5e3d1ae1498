use Rattle.std.proofs.Common.{◌*◌, ◌<◌, arith}
use Rattle.lvdc_machine.proofs.Refused.{goes-through}
use Rattle.lvdc_machine.proofs.machine.Machine.go_through.Goals as goal

pub returns-clause-goes : goal.returns-clause-goes
returns-clause-goes g c =
    let later : c.self.inside.steps < c.args.to = rw (← c.self.view_is) at c.requires.later in
    goes-through (λ b. (goal.PortDevice-dyn g (b.vtable, b.value)).device_of b.value) (λ b. (goal.PortDevice-dyn g (b.vtable, b.value)).spare b.value)
    (λ b. (goal.PortDevice-dyn g (b.vtable, b.value)).faults b.value) c.args.self.now c.make_refused-2.new.self c.make_steps.new.self
    c.args.devices.now.items c.make_refused-2.new.devices.items c.make_steps.new.devices.items c.args.to _ c.make_steps.result c.requires.refused
    (rw (← c.self.view_is) (omega (arith, later))) c.in_ok-make_refused.ensures.made c.make_steps.ensures
