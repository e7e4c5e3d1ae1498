use Rattle.std.proofs.Common.{◌*◌}
use Rattle.lvdc_model.specs.Runs.{through}
use Rattle.lvdc_runs.proofs.Admitted.{shown-same}
use Rattle.lvdc_runs.proofs.laws.rejoined_is_same.Goals as goal

pub returns-clause-same : goal.returns-clause-same
returns-clause-same c = λ o times count opens events joined later.
    let stays = c.rejoined_runs_stay_joined.ensures o times opens events joined count later in
    shown-same o count (through o (3 * count)) stays.shows stays.end stays.steps

pub returns-clause-counts : goal.returns-clause-counts
returns-clause-counts c = λ o times count opens events joined later. (c.rejoined_runs_stay_joined.ensures o times opens events joined count later).counts

pub returns-clause-repairs : goal.returns-clause-repairs
returns-clause-repairs c = λ o times count opens events joined later. (c.rejoined_runs_stay_joined.ensures o times opens events joined count later).repairs
