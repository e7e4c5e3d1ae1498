-- The ledger's words are the intended ones.
use Rattle.std.proofs.Common.{sym, subst}
use Rattle.lvdc_memory.specs.Holds.{MemoryState, IsMemoryOf}
use Rattle.lvdc_memory.proofs.memory.VotedMemory.intended.Goals as goal

pub returns : goal.returns
returns c o in_force t i h =
    let inside = subst (λ (m : MemoryState). IsMemoryOf o in_force m t i) (sym c.self.view_is) h in
    c.intended.ensures.words i inside.words
