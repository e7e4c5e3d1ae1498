use Rattle.std.proofs.Common.{subst}
use Rattle.lvdc_machine.specs.Shows.{Shows}
use Rattle.lvdc_model.specs.Voted.{Voted}
use Rattle.lvdc_runs.proofs.Through.{state-through}
use Rattle.lvdc_runs.proofs.laws.through_is_shown.Goals as goal

pub returns : goal.returns
returns c = λ o times m h. subst (λ (v : Voted). Shows o m h.left v) (state-through o times m h) h.stands.shows
