use Rattle.std.proofs.Common.{◌≡◌, map, take, All}
use Rattle.lvdc_port.specs.Device.{AreWords}
use Rattle.lvdc_port.specs.Devices.{HasSpare}
use Rattle.lvdc_port.proofs.requests.prepare_each.Given as goal

abbrev pub invariant-loop-device : goal.invariant-loop-device
invariant-loop-device g l = record {
  devices : map (λ b. (goal.PortDevice-dyn g (b.vtable, b.value)).device_of b.value) l.devices ≡ map (λ b. (goal.PortDevice-dyn g (b.vtable, b.value)).device_of b.value) l.fn.devices;
  faults : map (λ b. (goal.PortDevice-dyn g (b.vtable, b.value)).faults b.value) l.devices ≡ map (λ b. (goal.PortDevice-dyn g (b.vtable, b.value)).faults b.value) l.fn.devices;
  told : map (λ b. (goal.PortDevice-dyn g (b.vtable, b.value)).told b.value) l.devices ≡ map (λ b. (goal.PortDevice-dyn g (b.vtable, b.value)).told b.value) l.fn.devices;
  room : HasSpare (λ b. (goal.PortDevice-dyn g (b.vtable, b.value)).spare b.value) l.writes (take l.device-index l.devices);
  words : All (λ b. AreWords ((goal.PortDevice-dyn g (b.vtable, b.value)).device_of b.value).state) (take l.device-index l.devices);
}
