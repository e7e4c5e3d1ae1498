use Rattle.std.proofs.Common.{◌*◌, arith}
use Rattle.lvdc_runs.proofs.Stationed.{found-before, found-ahead}
use Rattle.lvdc_runs.proofs.early.station_before.Goals as goal

pub returns-clause-begins : goal.returns-clause-begins
returns-clause-begins c =
    found-before c.last_before.result c.args.stations.now _ c.last_before.ensures c.first_step.result c.args.script.now (omega arith) c.first_step.ensures

pub returns-clause-ahead : goal.returns-clause-ahead
returns-clause-ahead c = found-ahead c.last_before.result c.args.stations.now _ c.last_before.ensures (3 * c.args.times) (omega arith)
