use Rattle.lvdc_study.proofs.Early.{fails-early}
use Rattle.lvdc_study.proofs.laws.fails_early.Goals as goal

pub returns : goal.returns
returns c =
    fails-early c.steps_begin_admissible.ensures.admissible c.guarded_run.ensures c.step_begun.ensures c.stopped_run_stays.ensures c.through_is_guarded.ensures
