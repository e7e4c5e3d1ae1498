use Rattle.std.proofs.Common.{◌≡◌, ◌+◌, ◌*◌, ◌/◌, ◌%◌, arith}
use Rattle.lvdc_trace.proofs.Onward.{goes_call, goes_then, goes_as}
use Rattle.lvdc_trace.proofs.whole.make_steps.Goals as goal

pub returns : goal.returns
returns g c =
    let all : 3 * (c.args.steps / 3) + c.args.steps % 3 ≡ c.args.steps = omega arith in
    goes_as (λ b. (goal.PortDevice-dyn g (b.vtable, b.value)).device_of b.value) (λ b. (goal.PortDevice-dyn g (b.vtable, b.value)).spare b.value) (λ b. (goal.PortDevice-dyn g (b.vtable, b.value)).faults b.value)
    (3 * (c.args.steps / 3) + c.args.steps % 3) c.args.steps c.args.machine.now c.make_few.new.machine c.args.devices.now.items c.make_few.new.devices.items all
    (goes_then (λ b. (goal.PortDevice-dyn g (b.vtable, b.value)).device_of b.value) (λ b. (goal.PortDevice-dyn g (b.vtable, b.value)).spare b.value) (λ b. (goal.PortDevice-dyn g (b.vtable, b.value)).faults b.value)
    (3 * (c.args.steps / 3)) (c.args.steps % 3) c.args.machine.now c.run.new.self c.make_few.new.machine c.args.devices.now.items c.run.new.devices.items
    c.make_few.new.devices.items
    (goes_call (λ b. (goal.PortDevice-dyn g (b.vtable, b.value)).device_of b.value) (λ b. (goal.PortDevice-dyn g (b.vtable, b.value)).spare b.value) (λ b. (goal.PortDevice-dyn g (b.vtable, b.value)).faults b.value)
    (3 * (c.args.steps / 3)) c.run.result c.args.machine.now c.run.new.self c.args.devices.now.items c.run.new.devices.items
    c.run.ensures.stands c.run.ensures.answers c.run.ensures.leaves)
    c.make_few.ensures)
