use Rattle.std.proofs.Common.{All, List, IfOk, subst}
use Rattle.lvdc_port.specs.Device.{Device}
use Rattle.lvdc_runs.specs.Stations.{IsStation}
use Rattle.lvdc_study.specs.Study.{opening_over}
use Rattle.lvdc_console.proofs.bench.RackBench.make_stations.Goals as goal

pub returns : goal.returns
returns c =
    subst (λ (ds : List Device). IfOk c.make_stations.result (λ stations. All (IsStation (opening_over c.args.program.now ds) c.args.program.now.count) stations.items))
    c.is_whole.ensures.rack c.make_stations.ensures
