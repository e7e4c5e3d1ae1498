use Rattle.std.proofs.Common.{◌≡◌, ◌-◌, ◌++◌}
use Rattle.lvdc_soak_deck.specs.Soak.{after_draws, words_drawn, placed_from}
use Rattle.lvdc_soak_deck.proofs.soak.put_drawn.Given as goal

abbrev pub invariant-loop-loc : goal.invariant-loop-loc
invariant-loop-loc l = record {
  words : l.words.items ++ placed_from 1 l.loc (words_drawn (5 - l.loc) l.generator) ≡ l.fn.words.items ++ placed_from 1 0 (words_drawn 5 l.fn.generator);
  state : after_draws (5 - l.loc) l.generator ≡ after_draws 5 l.fn.generator;
}
