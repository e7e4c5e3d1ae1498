-- The twins show the ledger what the voted machine's twins show.
use Rattle.std.proofs.Common.{ℕ, sym, ap, ◌∙◌, subst, rules}
use Rattle.lvdc_map.specs.Memory.{word_at}
use Rattle.lvdc_fault.specs.Recoverable.{is_recovered, shown_by}
use Rattle.lvdc_memory.specs.Holds.{MemoryState, IsMemoryOf}
use Rattle.lvdc_memory.proofs.Carrying.{recovered-holds}
use Rattle.lvdc_memory.proofs.memory.VotedMemory.recoverable.Goals as goal

pub returns : goal.returns
returns c o in_force t i h =
    let inside = subst (λ (m : MemoryState). IsMemoryOf o in_force m t i) (sym c.self.view_is) h in
    c.recoverable.ensures.words i inside.words
    ∙ ap (λ (b : ℕ). is_recovered b c.args.at (word_at i c.args.at) (shown_by c.view.result c.view-2.result)) c.self.invariant
    ∙ recovered-holds o in_force (record { twins = c.self.inside.twins; ledger = c.self.inside.ledger }) t i c.args.at c.view.result c.view-2.result inside (search rules) (search rules) (search rules) (search rules)
