use Rattle.std.proofs.Common.{◌*◌, ◌≤◌, sym, ◌∙◌}
use Rattle.std.proofs.lemmas.Result.{IfOk-weaker}
use Rattle.lvdc_laws_runs.specs.Early.{AllBeginFrom}
use Rattle.lvdc_snapshot.specs.Snapshot.{IsWhole}
use Rattle.lvdc_study.specs.Study.{opening_over}
use Rattle.lvdc_study.specs.Waypoints.{IsWaypoint}
use Rattle.lvdc_study.specs.declared.waypoint.Waypoint.{Waypoint}
use Rattle.lvdc_study.proofs.Waypointed.{found-at, all-at, some-weaker}
use Rattle.lvdc_study.proofs.apart.study_apart.Goals as goal

pub row_masked-requires-clause-whole : goal.row_masked-requires-clause-whole
row_masked-requires-clause-whole g c =
    all-at (λ (w : Waypoint). w.snapshot.steps ≤ 3 * c.window_of-times.result) (λ (w : Waypoint). IsWhole w.snapshot) c.args.waypoints.now c.in-Some.at
    c.index-waypoints-at.result c.index-waypoints-at.is c.in-Some.ensures.ahead c.requires.whole

pub row_masked-requires-clause-ahead : goal.row_masked-requires-clause-ahead
row_masked-requires-clause-ahead g c =
    found-at (λ (w : Waypoint). w.snapshot.steps ≤ 3 * c.window_of-times.result) c.args.waypoints.now c.in-Some.at c.index-waypoints-at.result c.index-waypoints-at.is
    c.in-Some.ensures.ahead

pub row_misled-requires-clause-from : goal.row_misled-requires-clause-from
row_misled-requires-clause-from g c =
    all-at (λ (w : Waypoint). w.snapshot.steps ≤ 3 * c.window_of-times.result) (λ (w : Waypoint). IsWhole w.snapshot) c.args.waypoints.now c.in-Some.at
    c.index-waypoints-at.result c.index-waypoints-at.is c.in-Some.ensures.ahead c.requires.whole

pub returns-then-masking : goal.returns-then-masking
returns-then-masking g c =
    let from = c.index-waypoints-at.result in
    IfOk-weaker c.row_masked.result _ _
    (λ told h. some-weaker told _ _
    (λ row is first ran all.
    is first ran
    (all-at (λ (w : Waypoint). w.snapshot.steps ≤ 3 * c.window_of-times.result) (IsWaypoint (opening_over c.args.program.now first) c.args.program.now.count)
    c.args.waypoints.now c.in-Some.at from c.index-waypoints-at.is c.in-Some.ensures.ahead all)
    (found-at (λ (w : Waypoint). AllBeginFrom w.snapshot.steps c.args.named.now.script) c.args.waypoints.now c.in-Some.at from c.index-waypoints-at.is c.in-Some.ensures.begins)
    (sym c.in_ok-masking.ensures ∙ c.if-masking.true)) h)
    c.row_masked.ensures

pub returns : goal.returns
returns g c =
    let from = c.index-waypoints-at.result in
    IfOk-weaker c.row_misled.result _ _
    (λ told h. some-weaker told _ _
    (λ row is first ran all.
    is first ran all
    (all-at (λ (w : Waypoint). w.snapshot.steps ≤ 3 * c.window_of-times.result) (IsWaypoint (opening_over c.args.program.now first) c.args.program.now.count)
    c.args.waypoints.now c.in-Some.at from c.index-waypoints-at.is c.in-Some.ensures.ahead all)
    (found-at (λ (w : Waypoint). AllBeginFrom w.snapshot.steps c.args.named.now.script) c.args.waypoints.now c.in-Some.at from c.index-waypoints-at.is c.in-Some.ensures.begins)
    (sym c.in_ok-masking.ensures ∙ c.if-masking.false)) h)
    c.row_misled.ensures
