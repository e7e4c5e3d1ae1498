use Rattle.std.proofs.Common.{◌+◌, ◌/◌, ◌≤◌, List, All, map, arith, refl, subst, sym}
use Rattle.std.proofs.lemmas.List.Elements.{All-push}
use Rattle.lvdc_study.specs.Study.{opening_over}
use Rattle.lvdc_study.specs.Waypoints.{IsWaypoint}
use Rattle.lvdc_study.specs.declared.waypoint.Waypoint.{Waypoint}
use Rattle.lvdc_study.proofs.Waypointed.{some-is}
use Rattle.lvdc_study.proofs.replay.make_waypoints.Goals as goal

pub returns-in-None : goal.returns-in-None
returns-in-None g c =
    let p = opening_over c.args.program.now (map (λ b. (goal.PortDevice-dyn g (b.vtable, b.value)).device_of b.value) c.args.devices.now.items) in
    let Kept = IsWaypoint p c.args.program.now.count in
    subst (All Kept) (sym {A = List Waypoint} c.in_ok-push.ensures.items)
    (All-push Kept c.loop.waypoints.items c.loop.last c.loop.invariant.kept c.loop.invariant.last)

pub loop-preserved : goal.loop-preserved
loop-preserved g c =
    let p = opening_over c.args.program.now (map (λ b. (goal.PortDevice-dyn g (b.vtable, b.value)).device_of b.value) c.args.devices.now.items) in
    let Kept = IsWaypoint p c.args.program.now.count in
    let on = c.in_ok-next.ensures in
    let before = c.loop.invariant in
    let within = before.within in
    let made = before.steps in
    let bound : c.loop.last.snapshot.steps / 3 + c.spacing-every.result ≤ c.args.program.now.count = omega (arith, made, within, c.if-program-times.false) in
    let steps = some-is _ c.in_ok-next.next c.in-Some.waypoint c.in-Some.is on.steps in
    record {
      last = some-is _ c.in_ok-next.next c.in-Some.waypoint c.in-Some.is on.waypoint p c.args.program.now.count before.last refl bound c.requires.plain;
      whole = some-is _ c.in_ok-next.next c.in-Some.waypoint c.in-Some.is on.whole;
      steps = omega (arith, steps, made);
      within = omega (arith, within, c.if-program-times.false);
      distinct = on.distinct;
      kept =
          subst (All Kept) (sym {A = List Waypoint} c.in_ok-push.ensures.items)
          (All-push Kept c.loop.waypoints.items c.loop.last before.kept before.last);
    }

pub returns : goal.returns
returns g c =
    let p = opening_over c.args.program.now (map (λ b. (goal.PortDevice-dyn g (b.vtable, b.value)).device_of b.value) c.args.devices.now.items) in
    let Kept = IsWaypoint p c.args.program.now.count in
    subst (All Kept) (sym {A = List Waypoint} c.in_ok-push-2.ensures.items)
    (All-push Kept c.loop.waypoints.items c.loop.last c.loop.invariant.kept c.loop.invariant.last)
