use Rattle.lvdc_deck.proofs.Loaded.{deck-loads}
use Rattle.lvdc_deck.proofs.Alone.{own-loads}
use Rattle.lvdc_deck.proofs.laws.source_is_assembled.Goals as goal

pub returns-clause-deck : goal.returns-clause-deck
returns-clause-deck c = deck-loads

pub returns-clause-alone : goal.returns-clause-alone
returns-clause-alone c = own-loads
