use Rattle.std.proofs.Common.{◌≡◌, ◌++◌, drop}
use Rattle.lvdc_soak_deck.specs.Soak.{program, placed_from}
use Rattle.lvdc_soak_deck.proofs.soak.put_program.Given as goal

abbrev pub invariant-loop-loc : goal.invariant-loop-loc
invariant-loop-loc l = l.words.items ++ placed_from 0 l.loc (drop l.loc program) ≡ l.fn.words.items ++ placed_from 0 0 program
