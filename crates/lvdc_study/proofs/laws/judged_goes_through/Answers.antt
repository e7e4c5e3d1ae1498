use Rattle.std.proofs.Common.{ap, ◌∙◌}
use Rattle.lvdc_model.specs.Voted.{Voted}
use Rattle.lvdc_study.proofs.Judged.{state-through}
use Rattle.lvdc_study.proofs.laws.judged_goes_through.Goals as goal

pub returns : goal.returns
returns c = λ o times m h good.
    let state = state-through c.through_is_guarded.ensures c.judges_alone.ensures o times m h good in
    let shows = h.stands.shows in
    (shows.counts ∙ ap (λ (v : Voted). v.counts) state, shows.repairs ∙ ap (λ (v : Voted). v.repairs) state)
