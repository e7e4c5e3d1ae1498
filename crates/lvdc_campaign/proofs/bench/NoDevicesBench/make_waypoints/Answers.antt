use Rattle.std.proofs.Common.{All, List, IfOk, map, ap, subst}
use Rattle.lvdc_port.specs.Device.{Device}
use Rattle.lvdc_study.specs.Study.{opening_over}
use Rattle.lvdc_study.specs.Waypoints.{IsWaypoint}
use Rattle.lvdc_campaign.proofs.bench.NoDevicesBench.make_waypoints.Goals as goal

pub returns : goal.returns
returns c =
    subst (λ (ds : List Device). IfOk c.make_waypoints.result (λ waypoints. All (IsWaypoint (opening_over c.args.program.now ds) c.args.program.now.count) waypoints.items))
    (ap (map _) c.new-devices.ensures.items) c.make_waypoints.ensures
