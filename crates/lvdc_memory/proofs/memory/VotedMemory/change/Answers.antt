-- The events of each part that are new change what they change in their turn.
use Rattle.std.proofs.Common.{◌*◌, List, take, refl, sym, subst, ◌∙◌, arith}
use Rattle.lvdc_fault.specs.declared.event.Event.{Event}
use Rattle.lvdc_memory.specs.Changes.{Changes}
use Rattle.lvdc_memory.specs.News.{new_events}
use Rattle.lvdc_memory.specs.Parts.{events_of}
use Rattle.lvdc_memory.proofs.Begun.{all-parts, new-part, old-part}
use Rattle.lvdc_memory.proofs.Changing.{changes-none, changes-append}
use Rattle.lvdc_memory.proofs.memory.VotedMemory.change.Goals as goal
use Rattle.lvdc_memory.proofs.memory.VotedMemory.change.Goals.{then-is_changed, else-is_changed}

pub loop-number-init : goal.loop-number-init
loop-number-init c =
    record { changes = changes-none c.args.by.now.events.now c.args.by.now.step c.args.by.now.damaged c.args.self.now.twins; banks = refl; ledger = refl }

pub loop-number-preserved : goal.loop-number-preserved
loop-number-preserved c =
    let every = c.args.by.now.events.now in
    let step = c.args.by.now.step in
    let last = c.args.by.now.last in
    let damaged = c.args.by.now.damaged in
    let number = c.loop-number.number in
    let start = c.args.self.now.twins in
    let so_far = c.loop-number.invariant in
    elim c.if-is_changed.branch [
      | then-is_changed w ↦
          rw w.self-is
          (record {
            changes = subst (λ (es : List Event). Changes every step damaged es start w.change_part.new.self.twins) (sym (new-part last step every number))
                (changes-append every step damaged (new_events last step (take (256 * number) every)) (new_events last step (events_of every number)) start
                c.loop-number.self.twins w.change_part.new.self.twins so_far.changes
                (subst (λ (es : List Event). Changes every step damaged (new_events last step es) c.loop-number.self.twins w.change_part.new.self.twins) w.part_of.ensures
                w.change_part.ensures.changes));
            banks = w.change_part.ensures.banks ∙ so_far.banks;
            ledger = w.change_part.ensures.ledger ∙ so_far.ledger;
          })
      | else-is_changed w ↦
          rw w.self-is
          (record {
            changes = subst (λ (es : List Event). Changes every step damaged es start c.loop-number.self.twins)
                (sym (old-part last step every number (c.requires.old number c.loop-number-test.true (c.is_changed.ensures w.if-is_changed.false)))) so_far.changes;
            banks = so_far.banks;
            ledger = so_far.ledger;
          })
    ]

pub returns-clause-changes : goal.returns-clause-changes
returns-clause-changes c =
    let every = c.args.by.now.events.now in
    subst (λ (es : List Event). Changes every c.args.by.now.step c.args.by.now.damaged (new_events c.args.by.now.last c.args.by.now.step es) c.args.self.now.twins c.loop-number.self.twins)
    (all-parts every c.args.by.now.parts.now c.loop-number.number c.requires.parts (omega (arith, c.loop-number-test.false))) c.loop-number.invariant.changes

pub part_of-requires : goal.part_of-requires
part_of-requires c = omega (arith, c.requires.parts.few, c.loop-number-test.true)

pub change_part-requires-clause-right : goal.change_part-requires-clause-right
change_part-requires-clause-right c = c.requires.right

pub change_part-requires-clause-parts : goal.change_part-requires-clause-parts
change_part-requires-clause-parts c = c.requires.parts
