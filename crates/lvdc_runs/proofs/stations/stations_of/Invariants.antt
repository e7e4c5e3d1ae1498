use Rattle.std.proofs.Common.{◌≡◌, ◌*◌, ◌≤◌, All, map}
use Rattle.lvdc_plain.specs.Lists.{AreFit}
use Rattle.lvdc_plain.specs.Run.{Opening}
use Rattle.lvdc_machine.specs.Room.{exchanges_to_come}
use Rattle.lvdc_runs.specs.Stations.{IsFaultFree, IsUnderWay, IsStation}
use Rattle.lvdc_runs.proofs.stations.stations_of.Given as goal

-- the machine is under way after the times so far, and what was kept are stations
abbrev pub invariant-loop : goal.invariant-loop
invariant-loop g l = record {
  fault_free : IsFaultFree l.machine (map (λ b. (goal.PortDevice-dyn g (b.vtable, b.value)).device_of b.value) l.devices.items);
  steps : l.machine.steps ≡ 3 * l.times;
  limit : l.machine.limit ≡ l.count;
  within : l.times ≤ l.count;
  fit : AreFit (λ b. (goal.PortDevice-dyn g (b.vtable, b.value)).device_of b.value) (λ b. (goal.PortDevice-dyn g (b.vtable, b.value)).spare b.value)
      (exchanges_to_come l.machine) l.devices.items;
  under_way : (p : Opening) → IsUnderWay p l.fn.machine (map (λ b. (goal.PortDevice-dyn g (b.vtable, b.value)).device_of b.value) l.fn.devices.items)
      → IsUnderWay p l.machine (map (λ b. (goal.PortDevice-dyn g (b.vtable, b.value)).device_of b.value) l.devices.items);
  kept : (p : Opening) → IsUnderWay p l.fn.machine (map (λ b. (goal.PortDevice-dyn g (b.vtable, b.value)).device_of b.value) l.fn.devices.items)
      → All (IsStation p l.count) l.stations.items;
}
