use Rattle.std.proofs.Common.{◌≡◌, ◌*◌, ◌≤◌, All, map}
use Rattle.lvdc_port.specs.Devices.{AreDistinct}
use Rattle.lvdc_snapshot.specs.Snapshot.{IsWhole}
use Rattle.lvdc_study.specs.Study.{opening_over}
use Rattle.lvdc_study.specs.Waypoints.{IsWaypoint}
use Rattle.lvdc_study.proofs.replay.make_waypoints.Given as goal

-- the last one is a waypoint after the times so far, and so are those before it
abbrev pub invariant-loop : goal.invariant-loop
invariant-loop g l = record {
  last : IsWaypoint (opening_over l.program (map (λ b. (goal.PortDevice-dyn g (b.vtable, b.value)).device_of b.value) l.fn.devices.items)) l.program.count l.last;
  whole : IsWhole l.last.snapshot;
  steps : l.last.snapshot.steps ≡ 3 * l.times;
  within : l.times ≤ l.program.count;
  distinct : AreDistinct (map (λ b. (goal.PortDevice-dyn g (b.vtable, b.value)).device_of b.value) l.devices.items);
  kept : All (IsWaypoint (opening_over l.program (map (λ b. (goal.PortDevice-dyn g (b.vtable, b.value)).device_of b.value) l.fn.devices.items)) l.program.count)
      l.waypoints.items;
}
