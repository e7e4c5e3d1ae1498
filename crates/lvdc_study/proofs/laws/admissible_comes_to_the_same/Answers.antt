use Rattle.std.proofs.Common.{◌*◌, ap, ◌∙◌}
use Rattle.lvdc_model.specs.Voted.{Voted}
use Rattle.lvdc_study.proofs.Agree.{none-is, none-same}
use Rattle.lvdc_study.proofs.laws.admissible_comes_to_the_same.Goals as goal

pub returns : goal.returns
returns c = λ o times opens good.
    let same = c.through_is_guarded.ensures o (3 * times) opens good in
    let shows = c.guarded_times.ensures o opens times good in
    record {
      difference = none-is _ (none-same o times ∙ c.admissible_is_same.ensures o times opens good);
      log = ap (λ (v : Voted). v.log) same ∙ shows.log;
      devices = ap (λ (v : Voted). v.devices) same ∙ shows.devices;
    }
