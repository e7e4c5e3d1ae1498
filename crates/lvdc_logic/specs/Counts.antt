-- How often each copy of the seven modules differed from the vote, module by module.
use Rattle.std.specs.Prelude.{ℕ, List, [], ◌∷◌}
use Rattle.lvdc_logic.specs.declared.counts.Counts.{Counts}

-- the counts of the modules, in order
abbrev pub counts_in : Counts → List (List ℕ)
counts_in c = c.timer ∷ c.locator ∷ c.decoder ∷ c.selector ∷ c.accumulator ∷ c.multiplier ∷ c.exchange ∷ []
