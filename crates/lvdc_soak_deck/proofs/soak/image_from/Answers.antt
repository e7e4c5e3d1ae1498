use Rattle.std.proofs.Common.{◌≡◌, ℕ, List, [], ◌++◌, sym, ap, subst, ◌∙◌}
use Rattle.lvdc_map.specs.Memory.{are_rising, AllThere}
use Rattle.lvdc_map.specs.declared.placed.Placed.{Placed}
use Rattle.lvdc_soak_deck.specs.Soak.{program, words_drawn, placed_from, image_from}
use Rattle.lvdc_soak_deck.proofs.Soaking.{image-rises, image-there}
use Rattle.lvdc_soak_deck.proofs.soak.image_from.Goals as goal

-- the words of the loop and then the drawn ones, put into an empty list
words-put : (x : ℕ) (none loop all : List Placed) → none ≡ [] → loop ≡ none ++ placed_from 0 0 program →
    all ≡ loop ++ placed_from 1 0 (words_drawn 5 x) → all ≡ (image_from x).words
words-put x none loop all is puts draws =
    draws ∙ ap (λ (ps : List Placed). ps ++ placed_from 1 0 (words_drawn 5 x)) (puts ∙ ap (λ (ps : List Placed). ps ++ placed_from 0 0 program) is)

pub from_words-requires-clause-rising : goal.from_words-requires-clause-rising
from_words-requires-clause-rising c =
    ap are_rising (words-put c.args.generator.now _ _ _ c.new-words.ensures.items c.in_ok-put_program.ensures c.in_ok-put_drawn.ensures.words)
    ∙ image-rises c.args.generator.now

pub from_words-requires-clause-there : goal.from_words-requires-clause-there
from_words-requires-clause-there c =
    subst (AllThere 0) (sym (words-put c.args.generator.now _ _ _ c.new-words.ensures.items c.in_ok-put_program.ensures c.in_ok-put_drawn.ensures.words))
    (image-there c.args.generator.now)
