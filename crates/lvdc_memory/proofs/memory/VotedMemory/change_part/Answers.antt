-- Each event that is new changes what it does in its turn.
use Rattle.std.proofs.Common.{◌≡◌, ◌+◌, List, [], ◌∷◌, ◌++◌, cond, take, Bool, true, false, refl, sym, ap, subst, ◌∙◌, append-nil}
use Rattle.std.proofs.lemmas.List.{take_all}
use Rattle.lvdc_fault.specs.declared.event.Event.{Event}
use Rattle.lvdc_memory.specs.Changes.{Changes}
use Rattle.lvdc_memory.specs.News.{is_new, new_events}
use Rattle.lvdc_memory.proofs.Changing.{changes-none, changes-append, new-next}
use Rattle.lvdc_memory.proofs.memory.VotedMemory.change_part.Goals as goal
use Rattle.lvdc_memory.proofs.memory.VotedMemory.change_part.Goals.{then-is_new, else-is_new}

pub loop-event-init : goal.loop-event-init
loop-event-init c =
    record { changes = changes-none c.args.by.now.events.now c.args.by.now.step c.args.by.now.damaged c.args.self.now.twins; banks = refl; ledger = refl }

pub loop-event-preserved : goal.loop-event-preserved
loop-event-preserved c =
    let every = c.args.by.now.events.now in
    let step = c.args.by.now.step in
    let last = c.args.by.now.last in
    let damaged = c.args.by.now.damaged in
    let events = c.args.events.now in
    let i = c.loop-event.event-index in
    let e = c.event-item.result in
    let start = c.args.self.now.twins in
    let so_far = c.loop-event.invariant in
    let next : new_events last step (take (i + 1) events) ≡ new_events last step (take i events) ++ new_events last step (e ∷ []) =
    new-next last step events i e c.loop-event-test.true c.event-item.is in
    elim c.if-is_new.branch [
      | then-is_new w ↦
          let new : is_new last step e ≡ true = sym c.is_new.ensures ∙ w.if-is_new.true in
          rw w.self-is
          (record {
            changes = subst (λ (es : List Event). Changes every step damaged es start w.change_one.new.self.twins)
                (sym (next ∙ ap (λ (b : Bool). new_events last step (take i events) ++ cond b (e ∷ []) []) new))
                (changes-append every step damaged (new_events last step (take i events)) (e ∷ []) start c.loop-event.self.twins w.change_one.new.self.twins so_far.changes
                w.change_one.ensures.changes);
            banks = w.change_one.ensures.banks ∙ so_far.banks;
            ledger = w.change_one.ensures.ledger ∙ so_far.ledger;
          })
      | else-is_new w ↦
          let old : is_new last step e ≡ false = sym c.is_new.ensures ∙ w.if-is_new.false in
          rw w.self-is
          (record {
            changes = subst (λ (es : List Event). Changes every step damaged es start c.loop-event.self.twins)
                (sym (next ∙ ap (λ (b : Bool). new_events last step (take i events) ++ cond b (e ∷ []) []) old ∙ append-nil (new_events last step (take i events)))) so_far.changes;
            banks = so_far.banks;
            ledger = so_far.ledger;
          })
    ]

pub returns-clause-changes : goal.returns-clause-changes
returns-clause-changes c =
    subst (λ (es : List Event). Changes c.args.by.now.events.now c.args.by.now.step c.args.by.now.damaged (new_events c.args.by.now.last c.args.by.now.step es) c.args.self.now.twins c.loop-event.self.twins)
    (take_all c.loop-event.event-index c.args.events.now c.loop-event-test.false) c.loop-event.invariant.changes
