use Rattle.std.proofs.Common.{◌≡◌, All, List, IfOk, IfErr, sym, subst}
use Rattle.std.proofs.lemmas.List.Elements.{All-weaker}
use Rattle.std.proofs.lemmas.Result.{IfErr-weaker}
use Rattle.lvdc_port.specs.Device.{Device}
use Rattle.lvdc_snapshot.specs.Snapshot.{IsWhole}
use Rattle.lvdc_runs.specs.Scripts.{trial_under}
use Rattle.lvdc_runs.specs.Ran.{HasRunPlainly}
use Rattle.lvdc_runs.specs.Stations.{IsStation}
use Rattle.lvdc_study.specs.Failures.{FailsUnder}
use Rattle.lvdc_study.specs.Study.{opening_over, row_of}
use Rattle.lvdc_study.specs.Waypoints.{IsWaypoint}
use Rattle.lvdc_study.specs.declared.waypoint.Waypoint.{Waypoint}
use Rattle.lvdc_console.specs.Rack.{rack}
use Rattle.lvdc_console.proofs.Benched.{some-is, wants_memory}
use Rattle.lvdc_console.proofs.bench.RackBench.study_script.Goals as goal

pub study_apart_over_rack-requires-clause-whole : goal.study_apart_over_rack-requires-clause-whole
study_apart_over_rack-requires-clause-whole c =
    All-weaker (IsWaypoint (opening_over c.args.program.now rack) c.args.program.now.count) (λ (w : Waypoint). IsWhole w.snapshot) (λ w at. at.whole)
    c.args.waypoints.now c.requires.waypoints

pub returns-in-Some-clause-row : goal.returns-in-Some-clause-row
returns-in-Some-clause-row c =
    some-is _ c.in_ok-row.field-0 c.in-Some.row c.in-Some.is c.in_ok-row.ensures rack c.requires.plain c.requires.waypoints

pub study_script-requires-clause-plain : goal.study_script-requires-clause-plain
study_script-requires-clause-plain c =
    subst (λ (ds : List Device). HasRunPlainly (opening_over c.args.program.now ds) c.args.program.now.count c.args.plain.now)
    (sym c.is_whole.ensures.rack) c.requires.plain

pub study_script-requires-clause-stations : goal.study_script-requires-clause-stations
study_script-requires-clause-stations c =
    subst (λ (ds : List Device). All (IsStation (opening_over c.args.program.now ds) c.args.program.now.count) c.args.stations.now)
    (sym c.is_whole.ensures.rack) c.requires.stations

pub study_script-requires-clause-waypoints : goal.study_script-requires-clause-waypoints
study_script-requires-clause-waypoints c =
    subst (λ (ds : List Device). All (IsWaypoint (opening_over c.args.program.now ds) c.args.program.now.count) c.args.waypoints.now)
    (sym c.is_whole.ensures.rack) c.requires.waypoints

pub returns-clause-row : goal.returns-clause-row
returns-clause-row c =
    subst (λ (ds : List Device). IfOk c.study_script.result (λ row. row ≡ row_of (opening_over c.args.program.now ds) c.args.program.now.count c.args.named))
    c.is_whole.ensures.rack c.study_script.ensures.row

pub returns-clause-failed : goal.returns-clause-failed
returns-clause-failed c =
    subst (λ (ds : List Device). IfErr c.study_script.result (λ e. FailsUnder (trial_under (opening_over c.args.program.now ds) c.args.named.script) c.args.program.now.count e))
    c.is_whole.ensures.rack c.study_script.ensures.fails

pub returns-clause-unfailed : goal.returns-clause-unfailed
returns-clause-unfailed c =
    IfErr-weaker c.study_script.result _ _
    (λ e failed sound. wants_memory _ _ e _ _ rack c.is_whole.ensures.rack c.is_whole.ensures.never_fail failed) c.study_script.ensures.failed
