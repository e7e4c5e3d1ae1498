use Rattle.std.proofs.Common.{refl, ◌∙◌}
use Rattle.lvdc_laws_runs.specs.Early.{fault_free}
use Rattle.lvdc_laws_runs.proofs.Judged.{bad-same}
use Rattle.lvdc_laws_runs.proofs.early.steps_begin_admissible.Goals as goal

pub returns : goal.returns
returns c =
    record {
      same = bad-same;
      admissible = λ o first opens later n early. bad-same o first later n early ∙ c.no_faults_no_verdict.ensures (fault_free o) opens refl n;
    }
