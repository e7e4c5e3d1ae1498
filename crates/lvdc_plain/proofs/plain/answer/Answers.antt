use Rattle.std.proofs.Common.{arith}
use Rattle.lvdc_port.proofs.Lists.{room-in}
use Rattle.lvdc_plain.proofs.Lefts.{others-in}
use Rattle.lvdc_plain.proofs.plain.answer.Goals as goal

pub exchange-requires : goal.exchange-requires
exchange-requires g c =
    room-in c.args.devices.now.items (λ b. (goal.PortDevice-dyn g (b.vtable, b.value)).device_of b.value)
    (λ b. (goal.PortDevice-dyn g (b.vtable, b.value)).spare b.value) 1 _ c.requires (omega arith)

pub returns-in-Err-clause-others : goal.returns-in-Err-clause-others
returns-in-Err-clause-others g c =
    λ port apart. others-in c.args.devices.now.items c.exchange.new.devices.items (λ b. (goal.PortDevice-dyn g (b.vtable, b.value)).device_of b.value)
    (λ b. (goal.PortDevice-dyn g (b.vtable, b.value)).faults b.value) c.in-Err.ensures.fault.0 port c.in-Err.ensures.others c.in-Err.ensures.err apart
