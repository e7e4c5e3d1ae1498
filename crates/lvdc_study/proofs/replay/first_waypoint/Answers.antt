use Rattle.std.proofs.Common.{map}
use Rattle.lvdc_study.specs.Study.{opening_over}
use Rattle.lvdc_study.proofs.Making.{starts-free}
use Rattle.lvdc_study.proofs.Replayed.{start-waypoint}
use Rattle.lvdc_study.proofs.replay.first_waypoint.Goals as goal

pub returns-clause-waypoint : goal.returns-clause-waypoint
returns-clause-waypoint g c =
    let begins = c.in_ok-machine.ensures.begins in
    let made = c.in_ok-waypoint.ensures in
    start-waypoint (opening_over c.args.program.now (map (λ b. (goal.PortDevice-dyn g (b.vtable, b.value)).device_of b.value) c.args.devices.now.items))
    c.args.program.now.count c.in_ok-waypoint.waypoint c.in_ok-machine.machine made.means made.whole made.banks made.steps made.log _
    (starts-free c.args.program.now _ _ _ c.in_ok-unplugs.ensures.items c.in_ok-supply_all.ensures.ok _ c.in_ok-machine.machine _ c.new.ensures
    begins.opening begins.fresh begins.stands) begins.fresh.steps_are made.lines
