use Rattle.std.proofs.Common.{◌≡◌, map, drop}
use Rattle.lvdc_port.specs.Devices.{AreDistinct}
use Rattle.lvdc_plain.specs.Lists.{Since}
use Rattle.lvdc_command_resume.specs.Restore.{left_before}
use Rattle.lvdc_command_resume.proofs.restore.unplug_before.Given as goal

abbrev pub invariant-loop-line : goal.invariant-loop-line
invariant-loop-line g l = record {
  left : left_before (drop l.line-index l.unplugs) l.times (map (λ b. (goal.PortDevice-dyn g (b.vtable, b.value)).device_of b.value) l.devices.items)
      ≡ left_before l.unplugs l.times (map (λ b. (goal.PortDevice-dyn g (b.vtable, b.value)).device_of b.value) l.fn.devices.items);
  distinct : AreDistinct (map (λ b. (goal.PortDevice-dyn g (b.vtable, b.value)).device_of b.value) l.devices.items);
  since : Since (λ b. (goal.PortDevice-dyn g (b.vtable, b.value)).device_of b.value) (λ b. (goal.PortDevice-dyn g (b.vtable, b.value)).faults b.value) l.fn.devices.items l.devices.items;
  told : Since (λ b. (goal.PortDevice-dyn g (b.vtable, b.value)).device_of b.value) (λ b. (goal.PortDevice-dyn g (b.vtable, b.value)).told b.value) l.fn.devices.items l.devices.items;
}
