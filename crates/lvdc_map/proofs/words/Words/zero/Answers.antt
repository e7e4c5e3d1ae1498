use Rattle.lvdc_map.proofs.Images.{zeros}
use Rattle.lvdc_map.proofs.words.Words.zero.Goals as goal

pub returns : goal.returns
returns c = zeros c.in_ok-words.words.items c.in_ok-words.ensures.size c.in_ok-words.ensures.all
