use Rattle.std.proofs.Common.{arith}
use Rattle.lvdc_port.specs.declared.requests.PortRequest.TheVariants.{Write}
use Rattle.lvdc_port.proofs.Lists.{room-in}
use Rattle.lvdc_command_resume.proofs.Taking.{state-written, state-ports, since-same, has-failed}
use Rattle.lvdc_command_resume.proofs.Told.{were-written}
use Rattle.lvdc_command_resume.proofs.restore.write_word.Goals as goal

pub exchange-requires : goal.exchange-requires
exchange-requires g c =
    room-in c.args.devices.now.items (λ b. (goal.PortDevice-dyn g (b.vtable, b.value)).device_of b.value)
    (λ b. (goal.PortDevice-dyn g (b.vtable, b.value)).spare b.value) 1 (Write c.args.state.now.port c.args.state.now.word) c.requires.room (omega arith)

pub returns-in-Ok-clause-ok : goal.returns-in-Ok-clause-ok
returns-in-Ok-clause-ok g c = state-written _ c.args.state.now c.args.devices.now.items _ c.requires.kind c.in-Ok.ensures.ok

pub returns-in-Ok-clause-since : goal.returns-in-Ok-clause-since
returns-in-Ok-clause-since g c =
    since-same _ _ c.args.devices.now.items _
    (state-ports _ c.args.state.now c.args.devices.now.items _ (state-written _ c.args.state.now c.args.devices.now.items _ c.requires.kind c.in-Ok.ensures.ok))
    c.in-Ok.ensures.faults

pub returns-in-Err-clause-refused : goal.returns-in-Err-clause-refused
returns-in-Err-clause-refused g c =
    has-failed _ _ c.args.state.now.port c.in-Err.fault.port c.in-Err.fault.faults c.args.devices.now.items _
    c.in-Err.ensures.fault.0 c.in-Err.ensures.fault.1 c.in-Err.ensures.fault.2 c.exchange.ensures.others c.in-Err.ensures.err c.requires.kind

pub returns-in-Ok-clause-told : goal.returns-in-Ok-clause-told
returns-in-Ok-clause-told g c =
    were-written _ _ c.args.time c.args.state.now c.args.devices.now.items _ c.requires.kind
    (state-written _ c.args.state.now c.args.devices.now.items _ c.requires.kind c.in-Ok.ensures.ok) c.in-Ok.ensures.told c.exchange.ensures.others
