use Rattle.std.proofs.Common.{◌≡◌, ℕ, ◌+◌, ◌-◌, ◌*◌, ◌/◌, ◌≤◌, map, sym, ◌∙◌, subst, arith}
use Rattle.lvdc_model.specs.Voted.{Voted}
use Rattle.lvdc_snapshot.specs.Snapshot.{IsWhole}
use Rattle.lvdc_runs.specs.Scripts.{trial_under}
use Rattle.lvdc_study.specs.Rejoins.{Replays}
use Rattle.lvdc_study.specs.Waypoints.{IsWaypoint}
use Rattle.lvdc_study.specs.declared.waypoint.Waypoint.{Waypoint}
use Rattle.lvdc_study.proofs.Rejoined.{end-later}
use Rattle.lvdc_study.proofs.Saying.{replay-on}
use Rattle.lvdc_study.proofs.Waypointed.{some-is}
use Rattle.lvdc_study.proofs.misled.rejoins.Goals as goal

pub returns-in-Ok-true : goal.returns-in-Ok-true
returns-in-Ok-true g c = λ p script count at all ran events later over h.
    let from = c.args.from.now in
    let w = c.index-waypoints-at.result in
    let before = c.loop-at.invariant in
    let there : IsWaypoint p count w = subst (IsWaypoint p count) (sym c.index-waypoints-at.is) (all c.loop-at.at w (omega (arith, c.loop-at-test.true))) in
    let late : 3 * c.args.over ≤ w.snapshot.steps = omega (arith, c.if-there-over.true) in
    let whole = there.whole.times in
    let made : ℕ = (c.loop-at.made - from.snapshot.steps) + 3 * ((w.snapshot.steps - c.loop-at.made) / 3) in
    let steps : from.snapshot.steps + made ≡ w.snapshot.steps = omega (arith, whole, before.times, before.later, c.if-there-made.false) in
    let on = some-is _ c.in-Ok-Some.field-0 c.in-Ok-Some.verdict c.in-Ok-Some.field-0-is c.in-Ok-Some.ensures.replays in
    let first : Voted = record at.state { devices = map (λ b. (goal.PortDevice-dyn g (b.vtable, b.value)).device_of b.value) c.args.devices.now.items } in
    c.in-Ok-true.ensures c.in-Ok-true.field-0-test p script count made c.in-Ok-Some.verdict _ _ at there ran events later
    (end-later (3 * c.args.over) w.snapshot.steps script late over) steps
    (on (trial_under p script) first (c.loop-at.made - from.snapshot.steps) (before.replays (trial_under p script) first h))

pub loop-at-preserved : goal.loop-at-preserved
loop-at-preserved g c =
    let from = c.args.from.now in
    let w = c.index-waypoints-at.result in
    let before = c.loop-at.invariant in
    let whole : IsWhole w.snapshot =
    subst (λ (x : Waypoint). IsWhole x.snapshot) (sym c.index-waypoints-at.is) (c.requires.whole c.loop-at.at w (omega (arith, c.loop-at-test.true))) in
    let times = whole.times in
    let more : ℕ = (w.snapshot.steps - c.loop-at.made) / 3 in
    let on = c.in-Ok-Some.ensures in
    let steps = some-is _ c.in-Ok-Some.field-0 c.in-Ok-Some.verdict c.in-Ok-Some.field-0-is on.steps in
    let limit = some-is _ c.in-Ok-Some.field-0 c.in-Ok-Some.verdict c.in-Ok-Some.field-0-is on.limit in
    let replays = some-is _ c.in-Ok-Some.field-0 c.in-Ok-Some.verdict c.in-Ok-Some.field-0-is on.replays in
    let all : (c.loop-at.made - from.snapshot.steps) + 3 * more ≡ w.snapshot.steps - from.snapshot.steps =
    omega (arith, times, before.times, before.later, c.if-there-made.false) in
    record {
      times = times;
      later = omega (arith, before.later, c.if-there-made.false);
      steps = omega (arith, steps, times, before.times, before.steps, c.if-there-made.false);
      limit = limit ∙ before.limit;
      fit = some-is _ c.in-Ok-Some.field-0 c.in-Ok-Some.verdict c.in-Ok-Some.field-0-is on.fit;
      replay = replay-on c.loop-at.said c.in-Ok-Some.verdict c.loop-at.machine c.go_to.new.machine _ _ (3 * more) replays before.replay;
      replays = λ o first h.
          subst (λ (n : ℕ). Replays o first n c.in-Ok-Some.verdict c.go_to.new.machine (map (λ b. (goal.PortDevice-dyn g (b.vtable, b.value)).device_of b.value) c.go_to.new.devices.items)) all
          (replays o first (c.loop-at.made - from.snapshot.steps) (before.replays o first h));
    }
