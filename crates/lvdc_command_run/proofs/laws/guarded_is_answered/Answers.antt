use Rattle.std.proofs.Common.{◌*◌}
use Rattle.lvdc_model.specs.Runs.{guarded}
use Rattle.lvdc_command_run.specs.Accounts.{account}
use Rattle.lvdc_command_run.proofs.Told.{guarded-told}
use Rattle.lvdc_command_run.proofs.VotedRuns.{answer_told}
use Rattle.lvdc_command_run.proofs.laws.guarded_is_answered.Goals as goal

pub returns : goal.returns
returns c = λ o n opens.
    answer_told o (account o n) (guarded o (3 * n)) (guarded o (3 * n))
    (guarded-told o n (record { made = c.words_known.ensures.made o opens; begun = c.words_known.ensures.begun o }) (c.all_times_made.ensures o.opening)
    (c.guarded_run.ensures o opens) (c.guarded_times.ensures o opens n) (c.guarded_ends.ensures.end o opens n) (c.guarded_ends.ensures.steps o opens n))
