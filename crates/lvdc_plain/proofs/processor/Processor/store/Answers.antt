use Rattle.std.proofs.Common.{refl, sym, ◌∙◌, subst}
use Rattle.lvdc_map.specs.Memory.{IsMemory, stored}
use Rattle.lvdc_map.specs.declared.place.Place.TheVariants.{Memory, Pq, Saver}
use Rattle.lvdc_plain.proofs.Effects.{stores_held}
use Rattle.lvdc_plain.proofs.processor.Processor.store.Goals as goal
use Rattle.lvdc_plain.proofs.processor.Processor.store.Goals.{in-Memory, in-Saver, in-Pq}

pub returns-clause-holds : goal.returns-clause-holds
returns-clause-holds c =
    λ p h. elim c.match-operand_place.branch [
      | in-Memory w ↦
          stores_held c.args.address (Memory w.in-Memory.at) (stored p.memory w.in-Memory.at p.a) h (sym w.in-Memory.is ∙ c.operand_place.ensures.value) refl
          w.self-is (subst (λ a. IsMemory w.store.new.self (stored p.memory w.in-Memory.at a)) h.a (w.store.ensures.memory p.memory h.memory)) c.go_on.ensures
      | in-Saver w ↦
          stores_held c.args.address (Saver w.in-Saver.at) (stored p.memory w.in-Saver.at p.saver) h (sym w.in-Saver.is ∙ c.operand_place.ensures.value) refl
          w.self-is (subst (λ s. IsMemory w.store-in-Saver.new.self (stored p.memory w.in-Saver.at s)) h.saver (w.store-in-Saver.ensures.memory p.memory h.memory)) c.go_on.ensures
      | in-Pq w ↦
          stores_held c.args.address Pq p.memory h (sym w.in-Pq.is ∙ c.operand_place.ensures.value) refl
          w.self-is h.memory c.go_on.ensures
    ]
