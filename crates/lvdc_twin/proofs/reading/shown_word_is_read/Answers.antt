use Rattle.lvdc_twin.proofs.Mending.{found-shown}
use Rattle.lvdc_twin.proofs.reading.shown_word_is_read.Goals as goal

pub returns : goal.returns
returns c = found-shown
