use Rattle.std.proofs.Common.{◌*◌, sym, ◌∙◌}
use Rattle.lvdc_laws_runs.proofs.Plainly.{unhurt}
use Rattle.lvdc_laws_runs.proofs.guarded.unhurt_follows.Goals as goal

pub returns : goal.returns
returns c = λ o times m ds opens mode empty h.
    let good = c.no_faults_no_verdict.ensures o opens (sym h.shows.script ∙ empty) (3 * times) in
    unhurt o times m.end m.mode (c.guarded_follows.ensures o (3 * times) m ds opens mode h) (c.judges_alone.ensures o opens (3 * times))
    (c.guarded_ends.ensures.end o opens times good) good mode
