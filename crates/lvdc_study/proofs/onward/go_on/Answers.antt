use Rattle.std.proofs.Common.{◌≡◌, ℕ, ◌+◌, ◌-◌, ◌*◌, ◌/◌, ◌≤◌, map, sym, ◌∙◌, subst, arith}
use Rattle.lvdc_runs.specs.Scripts.{trial_under}
use Rattle.lvdc_study.specs.Rejoins.{GoesOn}
use Rattle.lvdc_study.specs.Waypoints.{IsWaypoint}
use Rattle.lvdc_study.proofs.Making.{since-on, failed-since}
use Rattle.lvdc_study.proofs.Rejoined.{has-run, end-later}
use Rattle.lvdc_study.proofs.onward.go_on.Goals as goal

pub returns-then-made-most-clause-run : goal.returns-then-made-most-clause-run
returns-then-made-most-clause-run g c = λ e o times h.
    let before = c.loop-at.invariant in
    let goes = before.goes o times h in
    let limit = goes.limit in
    has-run o c.loop-at.made times c.loop-at.machine _ goes (omega (arith, before.within, before.limit, limit, c.if-made-most.true, c.limit-most.ensures))

pub returns-then-branch-clause-rejoined : goal.returns-then-branch-clause-rejoined
returns-then-branch-clause-rejoined g c = λ told p script count all ran events over h.
    let w = c.index-waypoints-at.result in
    let at : IsWaypoint p count w = subst (IsWaypoint p count) (sym c.index-waypoints-at.is) (all c.loop-at.at w (omega (arith, c.loop-at-test.true))) in
    let late : 3 * c.args.over ≤ w.snapshot.steps = omega (arith, c.if-waypoint-over.true) in
    c.in_ok-has_rejoined.ensures c.if-branch.true p script count c.loop-at.made _ at ran events (end-later (3 * c.args.over) w.snapshot.steps script late over)
    (c.loop-at.invariant.goes (trial_under p script) count h)

pub returns-in-Err-clause-left : goal.returns-in-Err-clause-left
returns-in-Err-clause-left g c = λ port has. c.loop-at.invariant.since.left port (c.run_on.ensures.left port has)

pub returns-in-Err-clause-failed : goal.returns-in-Err-clause-failed
returns-in-Err-clause-failed g c =
    failed-since (λ b. (goal.PortDevice-dyn g (b.vtable, b.value)).device_of b.value) (λ b. (goal.PortDevice-dyn g (b.vtable, b.value)).faults b.value)
    c.args.devices.now.items c.loop-at.devices.items c.run_on.new.devices.items c.loop-at.invariant.since c.run_on.ensures.left c.in-Err.e c.in-Err.ensures.failed

pub returns-in-Err-clause-fails : goal.returns-in-Err-clause-fails
returns-in-Err-clause-fails g c = λ o times h.
    let before = c.loop-at.invariant in
    let goes = before.goes o times h in
    let limit = goes.limit in
    let next = c.steps_to-next.ensures in
    c.in-Err.ensures.fails o c.loop-at.made times goes (omega (arith, before.limit, limit, next.within, next.ahead, c.limit-most.ensures))

pub loop-at-preserved : goal.loop-at-preserved
loop-at-preserved g c =
    let before = c.loop-at.invariant in
    let next = c.steps_to-next.ensures in
    let on = c.run_on.ensures in
    let whole : c.loop-at.made + 3 * ((c.steps_to-next.result - c.loop-at.made) / 3) ≡ c.steps_to-next.result = omega (arith, before.times, next.whole, next.ahead) in
    record {
      times = next.whole;
      within = omega (arith, next.within, on.limit, before.limit, c.limit-most.ensures);
      limit = on.limit ∙ before.limit;
      most = omega (arith, on.most, before.most, next.ahead);
      unfailed = c.in-Ok.ensures.unfailed;
      fit = on.fit;
      since = since-on c.args.devices.now.items c.loop-at.devices.items c.run_on.new.devices.items before.since c.in-Ok.ensures.since;
      goes = λ o times h.
          subst (λ (n : ℕ). GoesOn o n times c.run_on.new.machine (map (λ b. (goal.PortDevice-dyn g (b.vtable, b.value)).device_of b.value) c.run_on.new.devices.items)) whole
          (c.in-Ok.ensures.goes o c.loop-at.made times (before.goes o times h));
    }

pub returns-in-Ok-run_on-clause-run : goal.returns-in-Ok-run_on-clause-run
returns-in-Ok-run_on-clause-run g c = λ e o times h.
    let before = c.loop-at.invariant in
    let goes = before.goes o times h in
    let limit = goes.limit in
    has-run o _ times c.run_on-2.new.machine _ (c.in-Ok-run_on.ensures.goes o c.loop-at.made times goes)
    (omega (arith, before.times, before.within, before.limit, limit, c.limit-most.ensures))

pub returns-in-Ok-run_on-clause-left : goal.returns-in-Ok-run_on-clause-left
returns-in-Ok-run_on-clause-left g c = λ port has. c.loop-at.invariant.since.left port (c.run_on-2.ensures.left port has)

pub returns-in-Err-run_on-clause-left : goal.returns-in-Err-run_on-clause-left
returns-in-Err-run_on-clause-left g c = λ port has. c.loop-at.invariant.since.left port (c.run_on-2.ensures.left port has)

pub returns-in-Err-run_on-clause-failed : goal.returns-in-Err-run_on-clause-failed
returns-in-Err-run_on-clause-failed g c =
    failed-since (λ b. (goal.PortDevice-dyn g (b.vtable, b.value)).device_of b.value) (λ b. (goal.PortDevice-dyn g (b.vtable, b.value)).faults b.value)
    c.args.devices.now.items c.loop-at.devices.items c.run_on-2.new.devices.items c.loop-at.invariant.since c.run_on-2.ensures.left c.in-Err-run_on.e
    c.in-Err-run_on.ensures.failed

pub returns-in-Err-run_on-clause-fails : goal.returns-in-Err-run_on-clause-fails
returns-in-Err-run_on-clause-fails g c = λ o times h.
    let before = c.loop-at.invariant in
    let goes = before.goes o times h in
    let limit = goes.limit in
    c.in-Err-run_on.ensures.fails o c.loop-at.made times goes (omega (arith, before.times, before.within, before.limit, limit, c.limit-most.ensures))
