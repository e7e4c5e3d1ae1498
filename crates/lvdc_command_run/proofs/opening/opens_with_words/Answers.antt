use Rattle.std.proofs.Common.{◌<◌, ◌^◌, All, subst}
use Rattle.lvdc_map.specs.declared.placed.Placed.{Placed}
use Rattle.lvdc_port.specs.declared.requests.Supply.{Supply}
use Rattle.lvdc_command_run.proofs.opening.opens_with_words.Goals as goal

pub returns : goal.returns
returns c = λ devices hold.
    record {
      image = subst (All (λ (placed : Placed). placed.word < 2 ^ 26)) c.words.ensures.words c.places_words.ensures;
      start = c.is_hop_constant.ensures;
      devices = c.words_stay.ensures.supply c.args.deck.now.supplies devices
          (subst (All (λ (supply : Supply). supply.word < 2 ^ 26)) c.items.ensures c.supplies_words.ensures) hold;
    }
