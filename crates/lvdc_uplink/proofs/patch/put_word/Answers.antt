use Rattle.std.proofs.Common.{◌≡◌, List, true, sym, subst, ◌∙◌}
use Rattle.lvdc_map.specs.Memory.{are_rising}
use Rattle.lvdc_map.specs.declared.placed.Placed.{Placed}
use Rattle.lvdc_uplink.proofs.Placing.{with_word-rising}
use Rattle.lvdc_uplink.proofs.Searching.{word_replaced, word_inserted}
use Rattle.lvdc_uplink.proofs.patch.put_word.Goals as goal

pub returns-in-Ok-clause-words : goal.returns-in-Ok-clause-words
returns-in-Ok-clause-words c =
    word_replaced c.args.words.now.items c.requires.rising c.args.new c.in-Ok.index (rw (← c.deref.ensures.value, ← c.number.ensures.value) c.in-Ok.ensures.found)

pub returns-in-Ok-clause-rising : goal.returns-in-Ok-clause-rising
returns-in-Ok-clause-rising c =
    subst (λ (ws : List Placed). are_rising ws ≡ true) (sym (returns-in-Ok-clause-words c)) (with_word-rising c.args.words.now.items c.args.new c.requires.rising)

pub returns-in_ok-insert-in-Err-clause-words : goal.returns-in_ok-insert-in-Err-clause-words
returns-in_ok-insert-in-Err-clause-words c =
    c.in_ok-insert-in-Err.ensures.items
    ∙ word_inserted c.args.words.now.items c.args.new c.in-Err.index (rw (← c.deref.ensures.value, ← c.number.ensures.value) c.in-Err.ensures.absent)

pub returns-in_ok-insert-in-Err-clause-rising : goal.returns-in_ok-insert-in-Err-clause-rising
returns-in_ok-insert-in-Err-clause-rising c =
    subst (λ (ws : List Placed). are_rising ws ≡ true) (sym (returns-in_ok-insert-in-Err-clause-words c)) (with_word-rising c.args.words.now.items c.args.new c.requires.rising)
