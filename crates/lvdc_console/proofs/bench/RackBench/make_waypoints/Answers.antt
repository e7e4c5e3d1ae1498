use Rattle.std.proofs.Common.{All, List, IfOk, sym, subst}
use Rattle.lvdc_port.specs.Device.{Device}
use Rattle.lvdc_runs.specs.Ran.{HasRunPlainly}
use Rattle.lvdc_study.specs.Study.{opening_over}
use Rattle.lvdc_study.specs.Waypoints.{IsWaypoint}
use Rattle.lvdc_console.proofs.bench.RackBench.make_waypoints.Goals as goal

pub make_waypoints-requires-clause-plain : goal.make_waypoints-requires-clause-plain
make_waypoints-requires-clause-plain c =
    subst (λ (ds : List Device). HasRunPlainly (opening_over c.args.program.now ds) c.args.program.now.count c.args.plain.now)
    (sym c.is_whole.ensures.rack) c.requires.plain

pub returns : goal.returns
returns c =
    subst (λ (ds : List Device). IfOk c.make_waypoints.result (λ waypoints. All (IsWaypoint (opening_over c.args.program.now ds) c.args.program.now.count) waypoints.items))
    c.is_whole.ensures.rack c.make_waypoints.ensures
