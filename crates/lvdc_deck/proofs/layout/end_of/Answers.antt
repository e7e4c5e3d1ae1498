use Rattle.lvdc_deck.proofs.Ends.{end-below}
use Rattle.lvdc_deck.proofs.layout.end_of.Goals as goal

pub returns-clause-below : goal.returns-clause-below
returns-clause-below c = end-below c.args.bytes.now c.args.lines.now c.place_of.result c.place_of.ensures
