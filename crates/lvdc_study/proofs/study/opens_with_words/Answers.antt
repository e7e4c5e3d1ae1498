use Rattle.std.proofs.Common.{subst}
use Rattle.lvdc_port.specs.Devices.{HoldWords}
use Rattle.lvdc_study.proofs.Waypointed.{on-ok}
use Rattle.lvdc_study.proofs.study.opens_with_words.Goals as goal

pub returns : goal.returns
returns g c =
    on-ok c.prepare_all.result _ _
    (λ hold. record {
      image = c.places_words.ensures;
      start = c.is_hop_constant.ensures;
      devices = c.words_stay.ensures.supply c.args.program.now.supplies.now _ c.supplies_words.ensures (subst HoldWords c.prepare_all.ensures.devices hold);
    })
    c.prepare_all.ensures.words
