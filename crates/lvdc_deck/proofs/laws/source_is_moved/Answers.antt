use Rattle.lvdc_deck.proofs.Alone.{source-moved}
use Rattle.lvdc_deck.proofs.laws.source_is_moved.Goals as goal

pub returns : goal.returns
returns c = source-moved
