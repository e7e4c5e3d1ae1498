use Rattle.std.proofs.Common.{◌*◌, ◌∙◌}
use Rattle.lvdc_model.specs.Runs.{guarded}
use Rattle.lvdc_withstands.proofs.Known.{few-steps}
use Rattle.lvdc_withstands.proofs.repair.repair_withstands.Goals as goal

pub returns : goal.returns
returns c o count ok h =
    let masked = c.repair_masks.ensures o count ok h in
    let n = 3 * count in
    record {
      masked = masked;
      shows = c.guarded_times.ensures o ok count masked.verdict;
      end = c.guarded_ends.ensures.end o ok count masked.verdict;
      made = c.guarded_ends.ensures.steps o ok count masked.verdict;
      known = λ at bank.
          c.words_known.ensures.made o ok n masked.verdict at bank
          ∙ masked.words_after (guarded o n).steps at (few-steps o n (c.guarded_run.ensures o ok n) masked.verdict) bank;
    }
