use Rattle.lvdc_deck.proofs.Apart.{commands-apart}
use Rattle.lvdc_deck.proofs.laws.commands_are_apart.Goals as goal

pub returns : goal.returns
returns c = commands-apart
