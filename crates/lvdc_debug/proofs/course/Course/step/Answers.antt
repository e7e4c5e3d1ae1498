use Rattle.std.proofs.Common.{arith}
use Rattle.lvdc_debug.proofs.Going.{run_moves, run_ready, run_left}
use Rattle.lvdc_debug.proofs.course.Course.step.Goals as goal

pub run-requires-clause-left : goal.run-requires-clause-left
run-requires-clause-left g c =
    run_left c.args.self.now.asked c.min-made.result c.args.machine.now.limit c.args.machine.now.steps c.requires.ready.few c.requires.ready.made
    (omega (arith, c.min-made.ensures, c.limit.ensures))

pub run-requires-clause-fit : goal.run-requires-clause-fit
run-requires-clause-fit g c = c.requires.ready.fit

pub returns-clause-moves : goal.returns-clause-moves
returns-clause-moves g c =
    run_moves (λ b. (goal.PortDevice-dyn g (b.vtable, b.value)).device_of b.value) (λ b. (goal.PortDevice-dyn g (b.vtable, b.value)).spare b.value) (λ b. (goal.PortDevice-dyn g (b.vtable, b.value)).faults b.value)
    c.args.self.now.asked c.min-made.result c.args.machine.now c.run.new.self c.args.devices.now.items c.run.new.devices.items c.run.result
    c.requires.ready (omega (arith, c.min-made.ensures, c.limit.ensures, c.requires.ready.few)) c.run.ensures.stands c.run.ensures.answers c.run.ensures.leaves

pub returns-clause-ready : goal.returns-clause-ready
returns-clause-ready g c =
    run_ready (λ b. (goal.PortDevice-dyn g (b.vtable, b.value)).device_of b.value) (λ b. (goal.PortDevice-dyn g (b.vtable, b.value)).spare b.value) (λ b. (goal.PortDevice-dyn g (b.vtable, b.value)).faults b.value)
    c.args.self.now.asked c.min-made.result c.args.machine.now c.run.new.self c.args.devices.now.items c.run.new.devices.items c.run.result
    c.requires.ready (omega (arith, c.min-made.ensures, c.limit.ensures, c.requires.ready.few)) c.run.ensures.stands c.run.ensures.answers c.run.ensures.leaves
