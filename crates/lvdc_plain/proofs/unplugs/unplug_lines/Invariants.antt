use Rattle.std.proofs.Common.{◌≡◌, drop}
use Rattle.lvdc_plain.specs.Run.{left_at}
use Rattle.lvdc_plain.proofs.unplugs.unplug_lines.Given as goal

abbrev pub invariant-loop-line : goal.invariant-loop-line
invariant-loop-line g l =
    left_at (λ b. (goal.PortDevice-dyn g (b.vtable, b.value)).device_of b.value) (drop l.line-index l.unplugs) l.time l.devices.items
    ≡ left_at (λ b. (goal.PortDevice-dyn g (b.vtable, b.value)).device_of b.value) l.unplugs l.time l.initial.devices.items
