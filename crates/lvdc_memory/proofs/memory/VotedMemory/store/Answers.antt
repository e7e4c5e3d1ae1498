-- A store leaves what it does of the voted machine's twins, and the intended word.
use Rattle.std.proofs.Common.{Some, sym, ◌∙◌, subst}
use Rattle.lvdc_twin.specs.Store.{Store}
use Rattle.lvdc_model.specs.Twins.{after_store}
use Rattle.lvdc_memory.specs.Holds.{MemoryState, Carries, IsMemoryOf}
use Rattle.lvdc_memory.proofs.Carrying.{store-carries}
use Rattle.lvdc_memory.proofs.memory.VotedMemory.store.Goals as goal

pub returns-clause-after : goal.returns-clause-after
returns-clause-after c o step t i h =
    let inside = subst (λ (m : MemoryState). IsMemoryOf o (Some step) m t i) (sym c.self.view_is) h in
    record {
      banks = c.write.ensures.banks ∙ inside.banks;
      twins = subst (λ (u : Store). Carries (Some step) o.script u (after_store o step c.args.at c.args.word t)) (sym c.write.ensures.after)
          (store-carries c.changes_are_local.ensures o step c.self.inside.twins t c.args.at c.args.word c.write.ensures.whole c.write.ensures.place inside.banks inside.twins);
      words = c.wrote.ensures.words i inside.words;
    }
