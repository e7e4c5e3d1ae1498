use Rattle.std.proofs.Common.{◌*◌, sym, ◌∙◌}
use Rattle.lvdc_runs.proofs.Unhurt.{unhurt}
use Rattle.lvdc_runs.proofs.laws.unhurt_through.Goals as goal

pub returns : goal.returns
returns c = λ o times m devices opens mode empty h.
    let good = c.no_faults_no_verdict.ensures o opens (sym h.shows.script ∙ empty) (3 * times) in
    unhurt o times m.end m.mode mode (c.through_is_guarded.ensures o (3 * times) opens good) (c.guarded_times.ensures o opens times good)
    (c.guarded_ends.ensures.end o opens times good) m.steps h.shows.end h.ends
