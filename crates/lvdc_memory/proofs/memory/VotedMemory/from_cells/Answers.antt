-- The twins store the cells, the words are intended, and nothing is in force.
use Rattle.std.proofs.Common.{sym, ◌∙◌}
use Rattle.lvdc_memory.proofs.memory.VotedMemory.from_cells.Goals as goal

pub returns-clause-holds : goal.returns-clause-holds
returns-clause-holds c o t i banks cells selected words = record {
  banks = c.in_ok-from_cells.ensures.banks_are ∙ sym banks;
  twins = record {
    cells = λ twin two place here. c.in_ok-from_cells.ensures.cells twin two place here ∙ sym (cells twin two place here);
    selected = c.in_ok-from_cells.ensures.selected ∙ sym selected;
    stuck = λ twin two place here. c.in_ok-from_cells.ensures.stuck twin place;
    dead = λ twin two pair small. c.in_ok-from_cells.ensures.dead twin pair;
  };
  words = record { size = c.in_ok-new.ensures.words.size; same = λ at ok. c.in_ok-new.ensures.words.same at ok ∙ sym (words at ok) };
}
