use Rattle.std.proofs.Common.{◌≡◌, All, List, IfOk, IfErr, sym, subst}
use Rattle.lvdc_port.specs.Device.{Device}
use Rattle.lvdc_runs.specs.Scripts.{trial_under}
use Rattle.lvdc_runs.specs.Ran.{HasRunPlainly}
use Rattle.lvdc_runs.specs.Stations.{IsStation}
use Rattle.lvdc_study.specs.Failures.{FailsUnder}
use Rattle.lvdc_study.specs.Study.{opening_over, row_of}
use Rattle.lvdc_study.specs.Waypoints.{IsWaypoint}
use Rattle.lvdc_tests_call.proofs.studies.OneTapeBench.study_script.Goals as goal

pub study_script-requires-clause-plain : goal.study_script-requires-clause-plain
study_script-requires-clause-plain c =
    subst (λ (ds : List Device). HasRunPlainly (opening_over c.args.program.now ds) c.args.program.now.count c.args.plain.now)
    (sym c.in_ok-devices.ensures.one) c.requires.plain

pub study_script-requires-clause-stations : goal.study_script-requires-clause-stations
study_script-requires-clause-stations c =
    subst (λ (ds : List Device). All (IsStation (opening_over c.args.program.now ds) c.args.program.now.count) c.args.stations.now)
    (sym c.in_ok-devices.ensures.one) c.requires.stations

pub study_script-requires-clause-waypoints : goal.study_script-requires-clause-waypoints
study_script-requires-clause-waypoints c =
    subst (λ (ds : List Device). All (IsWaypoint (opening_over c.args.program.now ds) c.args.program.now.count) c.args.waypoints.now)
    (sym c.in_ok-devices.ensures.one) c.requires.waypoints

pub returns-clause-row : goal.returns-clause-row
returns-clause-row c =
    subst (λ (ds : List Device). IfOk c.study_script.result (λ row. row ≡ row_of (opening_over c.args.program.now ds) c.args.program.now.count c.args.named))
    c.in_ok-devices.ensures.one c.study_script.ensures.row

pub returns-clause-failed : goal.returns-clause-failed
returns-clause-failed c =
    subst (λ (ds : List Device). IfErr c.study_script.result (λ e. FailsUnder (trial_under (opening_over c.args.program.now ds) c.args.named.script) c.args.program.now.count e))
    c.in_ok-devices.ensures.one c.study_script.ensures.fails
