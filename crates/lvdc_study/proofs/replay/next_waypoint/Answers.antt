use Rattle.std.proofs.Common.{◌+◌, ◌*◌, ◌/◌, [], length, map, refl, sym, ap, ◌∙◌, arith}
use Rattle.std.proofs.lemmas.List.Elements.{All-nil}
use Rattle.lvdc_laws_runs.specs.Early.{BeginsFrom}
use Rattle.lvdc_snapshot.specs.Snapshot.{meant}
use Rattle.lvdc_runs.specs.Scripts.{trial_under}
use Rattle.lvdc_study.proofs.Replayed.{next-waypoint}
use Rattle.lvdc_study.proofs.Waypointed.{means-over}
use Rattle.lvdc_study.proofs.replay.next_waypoint.Goals as goal

pub waypoint_of-requires-clause-times : goal.waypoint_of-requires-clause-times
waypoint_of-requires-clause-times g c =
    let from = c.args.from.now in
    let program = c.args.program.now in
    let devices = map (λ b. (goal.PortDevice-dyn g (b.vtable, b.value)).device_of b.value) c.args.devices.now.items in
    let o = trial_under (record { image = program.image.now; banks = from.snapshot.banks; start = program.start; unplugs = program.unplugs.now; devices = devices }) [] in
    let stands = c.in-Ok.ensures.stands o (meant from.snapshot devices) (sym c.new-script.ensures) refl refl (c.resumed_goes_on.ensures.meant from.snapshot devices) refl in
    let steps = c.if-not-goes_along.ensures.steps refl o (meant from.snapshot devices) refl stands in
    omega (arith, steps)

pub returns-clause-steps : goal.returns-clause-steps
returns-clause-steps g c =
    let from = c.args.from.now in
    let program = c.args.program.now in
    let devices = map (λ b. (goal.PortDevice-dyn g (b.vtable, b.value)).device_of b.value) c.args.devices.now.items in
    let o = trial_under (record { image = program.image.now; banks = from.snapshot.banks; start = program.start; unplugs = program.unplugs.now; devices = devices }) [] in
    let stands = c.in-Ok.ensures.stands o (meant from.snapshot devices) (sym c.new-script.ensures) refl refl (c.resumed_goes_on.ensures.meant from.snapshot devices) refl in
    c.in_ok-waypoint.ensures.steps ∙ c.if-not-goes_along.ensures.steps refl o (meant from.snapshot devices) refl stands

pub returns-clause-waypoint : goal.returns-clause-waypoint
returns-clause-waypoint g c = λ p count at lines within ran.
    let from = c.args.from.now in
    let times = from.snapshot.steps / 3 + c.args.every in
    let o = trial_under p [] in
    let devices = map (λ b. (goal.PortDevice-dyn g (b.vtable, b.value)).device_of b.value) c.machine_from.new.devices.items in
    let state = record at.state { devices = devices } in
    let stands = c.in-Ok.ensures.stands o state (sym c.new-script.ensures) lines (sym at.banks) (means-over from.snapshot at.state devices at.means) c.in-Ok.ensures.devices in
    let made = c.in_ok-waypoint.ensures in
    next-waypoint p count c.in_ok-waypoint.waypoint c.goes_along.new.machine made.means made.whole made.banks made.steps made.log c.judges_alone.ensures times from.lines
    at.opening within (c.if-not-goes_along.ensures.steps refl o state at.means.steps stands)
    (c.if-not-goes_along.ensures.replayed refl p [] count at within ran (All-nil (BeginsFrom from.snapshot.steps))
    (c.no_faults_no_verdict.ensures o at.opening refl (3 * times)) stands)
    (made.lines ∙ ap (λ (log : _). from.lines + length log) c.log-2.ensures.log)
