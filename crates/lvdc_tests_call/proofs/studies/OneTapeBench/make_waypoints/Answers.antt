use Rattle.std.proofs.Common.{All, List, IfOk, sym, subst}
use Rattle.lvdc_port.specs.Device.{Device}
use Rattle.lvdc_runs.specs.Ran.{HasRunPlainly}
use Rattle.lvdc_study.specs.Study.{opening_over}
use Rattle.lvdc_study.specs.Waypoints.{IsWaypoint}
use Rattle.lvdc_tests_call.proofs.studies.OneTapeBench.make_waypoints.Goals as goal

pub make_waypoints-requires-clause-plain : goal.make_waypoints-requires-clause-plain
make_waypoints-requires-clause-plain c =
    subst (λ (ds : List Device). HasRunPlainly (opening_over c.args.program.now ds) c.args.program.now.count c.args.plain.now)
    (sym c.in_ok-devices.ensures.one) c.requires.plain

pub returns : goal.returns
returns c =
    subst (λ (ds : List Device). IfOk c.make_waypoints.result (λ waypoints. All (IsWaypoint (opening_over c.args.program.now ds) c.args.program.now.count) waypoints.items))
    c.in_ok-devices.ensures.one c.make_waypoints.ensures
