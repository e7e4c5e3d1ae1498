use Rattle.lvdc_console.proofs.Held.{below}
use Rattle.lvdc_console.proofs.rack.rack_holds_words.Goals as goal

pub returns : goal.returns
returns c = below 16
