use Rattle.std.proofs.Common.{◌≡◌, map, take}
use Rattle.lvdc_port.specs.Supplies.{supplied, ports_of, kinds_of}
use Rattle.lvdc_port.proofs.supplies.supply_all.Given as goal

abbrev pub invariant-loop-supply : goal.invariant-loop-supply
invariant-loop-supply g l = record {
  front : (map (λ b. (goal.PortDevice-dyn g (b.vtable, b.value)).device_of b.value) l.devices.items) ≡ supplied (take l.supply-index l.supplies) (map (λ b. (goal.PortDevice-dyn g (b.vtable, b.value)).device_of b.value) l.fn.devices.items);
  ports : ports_of (map (λ b. (goal.PortDevice-dyn g (b.vtable, b.value)).device_of b.value) l.devices.items) ≡ ports_of (map (λ b. (goal.PortDevice-dyn g (b.vtable, b.value)).device_of b.value) l.fn.devices.items);
  kinds : kinds_of (map (λ b. (goal.PortDevice-dyn g (b.vtable, b.value)).device_of b.value) l.devices.items) ≡ kinds_of (map (λ b. (goal.PortDevice-dyn g (b.vtable, b.value)).device_of b.value) l.fn.devices.items);
  spare : map (λ b. (goal.PortDevice-dyn g (b.vtable, b.value)).spare b.value) l.devices.items ≡ map (λ b. (goal.PortDevice-dyn g (b.vtable, b.value)).spare b.value) l.fn.devices.items;
  faults : map (λ b. (goal.PortDevice-dyn g (b.vtable, b.value)).faults b.value) l.devices.items ≡ map (λ b. (goal.PortDevice-dyn g (b.vtable, b.value)).faults b.value) l.fn.devices.items;
  told : map (λ b. (goal.PortDevice-dyn g (b.vtable, b.value)).told b.value) l.devices.items ≡ map (λ b. (goal.PortDevice-dyn g (b.vtable, b.value)).told b.value) l.fn.devices.items;
}
