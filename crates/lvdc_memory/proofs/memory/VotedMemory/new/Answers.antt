-- The twins store the image, and nothing is in force.
use Rattle.std.proofs.Common.{List, sym, ◌∙◌, subst}
use Rattle.lvdc_word.specs.Cell.{code_of}
use Rattle.lvdc_map.specs.Banks.{held_at}
use Rattle.lvdc_map.specs.Memory.{memory_of, word_at, IsMemory}
use Rattle.lvdc_map.specs.declared.placed.Placed.{Placed}
use Rattle.lvdc_memory.proofs.memory.VotedMemory.new.Goals as goal

pub returns-clause-holds : goal.returns-clause-holds
returns-clause-holds c o image banks = record {
  banks = c.in_ok-new.ensures.banks_are ∙ sym banks;
  twins = record {
    cells = λ twin two place here.
        c.in_ok-new.ensures.cells twin two place here ∙ (λ i. code_of (word_at (memory_of (sym image i)) (held_at (sym banks i) twin place)));
    selected = c.in_ok-new.ensures.selected;
    stuck = λ twin two place here. c.in_ok-new.ensures.stuck twin place;
    dead = λ twin two pair small. c.in_ok-new.ensures.dead twin pair;
  };
  words = subst (λ (words : List Placed). IsMemory c.in_ok-new-2.field-0.words (memory_of words)) (sym image) c.in_ok-new-2.ensures.words;
}
