use Rattle.std.proofs.Common.{All}
use Rattle.lvdc_uplink.specs.Patching.{placed_in}
use Rattle.lvdc_uplink.proofs.Placing.{with_words-all}
use Rattle.lvdc_uplink.proofs.Applying.{IsThere, placed_in-there}
use Rattle.lvdc_uplink.proofs.load.Load.patch.Goals as goal

pub with-requires-clause-there : goal.with-requires-clause-there
with-requires-clause-there c =
    let image_there : All (IsThere c.banks.result) c.in_ok-words.words.items =
    rw (c.in_ok-words.ensures.items, c.banks.ensures) c.words.ensures.there in
    rw c.in_ok-put.ensures.words
    (with_words-all (IsThere c.banks.result) (placed_in c.args.self.now.frames) c.in_ok-words.words.items
    (placed_in-there c.banks.result c.args.self.now.frames c.in_ok-put.ensures.fitting) image_there)

pub from_words-requires-clause-there : goal.from_words-requires-clause-there
from_words-requires-clause-there c =
    let image_there : All (IsThere 0) c.in_ok-words.words.items =
    rw (c.in_ok-words.ensures.items, ← c.start.ensures.duplex c.in-None.is) c.words.ensures.there in
    rw c.in_ok-put.ensures.words
    (with_words-all (IsThere 0) (placed_in c.args.self.now.frames) c.in_ok-words.words.items
    (placed_in-there 0 c.args.self.now.frames c.in_ok-put.ensures.fitting) image_there)
