use Rattle.std.proofs.Common.{◌≡◌, List, subst, arith}
use Rattle.std.proofs.lemmas.Grind.{common_steps}
use Rattle.lvdc_fault.specs.declared.event.Event.{Event}
use Rattle.lvdc_memory.specs.Changes.{Changes}
use Rattle.lvdc_memory.specs.Parts.{AreRightSince}
use Rattle.lvdc_memory.specs.News.{new_events}
use Rattle.lvdc_memory.proofs.Begun.{changed-holds}
use Rattle.lvdc_memory.proofs.events.MemoryEvents.change.Goals as goal

pub returns-clause-begun : goal.returns-clause-begun
returns-clause-begun c = λ o t i same h.
    let events = c.self.inside.events.items in
    let last = c.self.inside.last in
    let step = c.args.step in
    let damaged = c.args.damaged in
    let old = c.args.memory.now in
    let new = c.change.new.self in
    changed-holds o events last step damaged old new t i c.requires.own
    (subst (λ (es : List Event). Changes es step damaged (new_events last step es) old.twins new.twins) c.deref-2.ensures.value c.change.ensures.changes) c.change.ensures.banks
    c.change.ensures.ledger (rw (← c.self.view_is) at same) (rw (← c.self.view_is) at h)

-- the parts that were renewed
parts-are : (c : goal.After-change-arg-3-1) → c.deref-3.result.now ≡ c.renew_all-self-inside.new.parts
parts-are c = grind (arith, common_steps)

-- they were right since the last step
right-since : (c : goal.After-change-arg-3-1) → AreRightSince c.deref.result.now c.self.inside.last c.deref_mut.result.now
right-since c = rw (c.deref.ensures.value, c.deref_mut.ensures.value) c.self.invariant.right

pub renew_all-self-inside-requires : goal.renew_all-self-inside-requires
renew_all-self-inside-requires c = record { parts = rw (c.deref.ensures.value, c.deref_mut.ensures.value) c.self.invariant.parts }

pub change-requires-clause-events : goal.change-requires-clause-events
change-requires-clause-events c = rw c.deref-2.ensures.value c.self.invariant.events

pub change-requires-clause-parts : goal.change-requires-clause-parts
change-requires-clause-parts c = rw (c.deref-2.ensures.value, parts-are c) (rw c.deref.ensures.value at c.renew_all-self-inside.ensures.parts)

pub change-requires-clause-right : goal.change-requires-clause-right
change-requires-clause-right c =
    rw (c.deref-2.ensures.value, parts-are c) (rw c.deref.ensures.value at (c.renew_all-self-inside.ensures.right (right-since c)))

pub change-requires-clause-old : goal.change-requires-clause-old
change-requires-clause-old c =
    rw (c.deref-2.ensures.value, parts-are c) (rw c.deref.ensures.value at (c.renew_all-self-inside.ensures.old (right-since c)))
