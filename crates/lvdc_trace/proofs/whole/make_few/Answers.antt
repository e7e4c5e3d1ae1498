use Rattle.lvdc_trace.proofs.Onward.{goes_call, goes_then}
use Rattle.lvdc_trace.proofs.whole.make_few.Goals as goal

pub loop-made-preserved : goal.loop-made-preserved
loop-made-preserved g c =
    goes_then (λ b. (goal.PortDevice-dyn g (b.vtable, b.value)).device_of b.value) (λ b. (goal.PortDevice-dyn g (b.vtable, b.value)).spare b.value) (λ b. (goal.PortDevice-dyn g (b.vtable, b.value)).faults b.value)
    c.loop-made._made 1 c.args.machine.now c.loop-made.machine c.phase.new.self c.args.devices.now.items c.loop-made.devices.items c.phase.new.devices.items
    c.loop-made.invariant
    (goes_call (λ b. (goal.PortDevice-dyn g (b.vtable, b.value)).device_of b.value) (λ b. (goal.PortDevice-dyn g (b.vtable, b.value)).spare b.value) (λ b. (goal.PortDevice-dyn g (b.vtable, b.value)).faults b.value)
    1 c.phase.result c.loop-made.machine c.phase.new.self c.loop-made.devices.items c.phase.new.devices.items
    c.phase.ensures.stands c.phase.ensures.answers c.phase.ensures.leaves)
