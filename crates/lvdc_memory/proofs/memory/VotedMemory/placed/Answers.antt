-- Twins and intended words have the same banks.
use Rattle.std.proofs.Common.{ℕ, ap, ◌∙◌, subst}
use Rattle.lvdc_map.specs.Memory.{AllThere}
use Rattle.lvdc_memory.specs.Holds.{MemoryState}
use Rattle.lvdc_memory.proofs.memory.VotedMemory.placed.Goals as goal

pub returns-clause-there : goal.returns-clause-there
returns-clause-there c =
    subst (λ (banks : ℕ). AllThere banks c.in_ok-placed.placed.items) (c.self.invariant ∙ ap (λ (m : MemoryState). m.twins.banks) c.self.view_is) c.in_ok-placed.ensures.there
