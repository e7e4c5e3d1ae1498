use Rattle.std.proofs.Common.{sym, ◌∙◌}
use Rattle.lvdc_campaign_deck.proofs.Steps.{name-short}
use Rattle.lvdc_campaign_deck.proofs.scripts.is_short_name.Goals as goal

pub returns-clause-short : goal.returns-clause-short
returns-clause-short c = λ is. name-short c.args.text.now (sym c.is_name.ensures ∙ is)
