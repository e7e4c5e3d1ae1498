-- A read answers and leaves what it does of the voted machine's twins.
use Rattle.std.proofs.Common.{Result, Ok, Err, Some, refl, sym, ap, ◌∙◌, subst}
use Rattle.std.specs.Prelude.{OnErr}
use Rattle.lvdc_memory.specs.Holds.{MemoryState, IsMemoryOf}
use Rattle.lvdc_memory.proofs.Carrying.{read-answers, read-holds}
use Rattle.lvdc_memory.proofs.memory.VotedMemory.read.Goals as goal

-- what holds after an error has its consequences then
on-err : {A E : Type 0} {P Q : Type 0} (r : Result A E) → (P → Q) → OnErr r P → OnErr r Q
on-err (Ok x) follows h = tt
on-err (Err e) follows h = follows h

pub invariant_of-self : goal.invariant_of-self
invariant_of-self c = c.self.invariant ∙ sym c.read.ensures.banks

pub returns-clause-answer : goal.returns-clause-answer
returns-clause-answer c o step t i h =
    let inside = subst (λ (m : MemoryState). IsMemoryOf o (Some step) m t i) (sym c.self.view_is) h in
    c.read.ensures.answer ∙ read-answers o step c.self.inside.twins t c.args.at c.read.ensures.whole c.read.ensures.place c.read.ensures.bank inside.banks inside.twins

pub returns-clause-after : goal.returns-clause-after
returns-clause-after c =
    read-holds c.changes_are_local.ensures c.read.result c.self.inside.twins c.read.new.self c.args.self.now (record { twins = c.read.new.self; ledger = c.self.inside.ledger }) c.args.at c.read.ensures.whole
    c.read.ensures.place c.read.ensures.repaired c.read.ensures.after c.read.ensures.banks (ap (λ (m : MemoryState). m.twins) (sym c.self.view_is)) refl
    (ap (λ (m : MemoryState). m.ledger) c.self.view_is)

pub returns-clause-repaired : goal.returns-clause-repaired
returns-clause-repaired c = c.read.ensures.repaired

pub returns-clause-unchanged : goal.returns-clause-unchanged
returns-clause-unchanged c =
    on-err c.read.result (λ same. ap (λ twins. record { twins = twins; ledger = c.self.inside.ledger }) same ∙ c.self.view_is) c.read.ensures.unchanged

pub returns-clause-banks : goal.returns-clause-banks
returns-clause-banks c = c.read.ensures.banks ∙ ap (λ (m : MemoryState). m.twins.banks) c.self.view_is
