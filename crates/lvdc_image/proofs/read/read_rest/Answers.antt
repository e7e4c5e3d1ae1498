use Rattle.std.proofs.Common.{ℕ, subst}
use Rattle.lvdc_map.specs.Memory.{AllThere}
use Rattle.lvdc_text.specs.Lines.{numbered}
use Rattle.lvdc_image.proofs.Rising.{words_from-rising, words_from-there}
use Rattle.lvdc_image.proofs.read.read_rest.Goals as goal

pub with-requires-clause-rising : goal.with-requires-clause-rising
with-requires-clause-rising c =
    words_from-rising c.args.banks c.args.next (numbered c.args.bytes.now c.args.lines.now) c.in_ok-words.words.items c.in_ok-words.ensures.words

pub with-requires-clause-there : goal.with-requires-clause-there
with-requires-clause-there c =
    words_from-there c.args.banks c.args.next (numbered c.args.bytes.now c.args.lines.now) c.in_ok-words.words.items c.in_ok-words.ensures.words

pub from_words-requires-clause-rising : goal.from_words-requires-clause-rising
from_words-requires-clause-rising c =
    words_from-rising c.args.banks c.args.next (numbered c.args.bytes.now c.args.lines.now) c.in_ok-words.words.items c.in_ok-words.ensures.words

pub from_words-requires-clause-there : goal.from_words-requires-clause-there
from_words-requires-clause-there c =
    subst (λ (banks : ℕ). AllThere banks c.in_ok-words.words.items) (c.requires.duplex c.in-None.is)
    (words_from-there c.args.banks c.args.next (numbered c.args.bytes.now c.args.lines.now) c.in_ok-words.words.items c.in_ok-words.ensures.words)
