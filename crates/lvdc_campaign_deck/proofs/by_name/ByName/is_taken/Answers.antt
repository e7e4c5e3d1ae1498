use Rattle.std.proofs.Common.{ap, ◌∙◌}
use Rattle.lvdc_campaign_deck.specs.Scripts.{is_taken}
use Rattle.lvdc_campaign_deck.proofs.Steps.{taken-found}
use Rattle.lvdc_campaign_deck.proofs.by_name.ByName.is_taken.Goals as goal

pub returns : goal.returns
returns c =
    c.is_some.ensures ∙ taken-found c.args.name.now c.self.inside.names c.self.inside.scripts.items c.get.result c.get.ensures c.self.invariant
    ∙ ap (is_taken c.args.name.now) c.self.view_is
