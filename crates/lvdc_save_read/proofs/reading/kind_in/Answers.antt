use Rattle.std.proofs.Common.{◌∙◌}
use Rattle.lvdc_port.proofs.Supplied.{kind-map}
use Rattle.lvdc_save_read.proofs.reading.kind_in.Goals as goal

pub returns : goal.returns
returns g c =
    c.kind_at.ensures ∙ kind-map (λ b. (goal.PortDevice-dyn g (b.vtable, b.value)).device_of b.value) c.args.port c.args.devices.now.items
