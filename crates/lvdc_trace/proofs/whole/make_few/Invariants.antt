use Rattle.lvdc_trace.specs.Going.{GoesOn}
use Rattle.lvdc_trace.proofs.whole.make_few.Given as goal

abbrev pub invariant-loop-made : goal.invariant-loop-made
invariant-loop-made g l =
    GoesOn (λ b. (goal.PortDevice-dyn g (b.vtable, b.value)).device_of b.value) (λ b. (goal.PortDevice-dyn g (b.vtable, b.value)).spare b.value) (λ b. (goal.PortDevice-dyn g (b.vtable, b.value)).faults b.value)
    l._made l.fn.machine l.machine l.fn.devices.items l.devices.items
