-- What one part more sticks comes after what those before it stick.
use Rattle.std.proofs.Common.{◌≡◌, List, sym, subst, ap, ◌∙◌}
use Rattle.lvdc_twin.specs.Store.{nothing}
use Rattle.lvdc_fault.specs.Damage.{stuck_after}
use Rattle.lvdc_fault.specs.declared.event.Event.{Event}
use Rattle.lvdc_memory.specs.Parts.{events_of, no_part, IsWithin}
use Rattle.lvdc_memory.proofs.Joining.{stuck_join, stuck_next}
use Rattle.lvdc_memory.proofs.PartLaws.{item_at}
use Rattle.lvdc_memory.proofs.parts.stuck_now.Goals as goal

pub stuck_at-requires-clause-within : goal.stuck_at-requires-clause-within
stuck_at-requires-clause-within c =
    let i = c.loop-number.number in
    let parts = c.args.parts.now in
    let part = c.index-parts-number.result in
    subst (λ (es : List Event). IsWithin es part) (sym c.part_of.ensures)
    (subst (IsWithin (events_of c.args.events.now i)) (item_at parts i part no_part c.loop-number-test.true c.index-parts-number.is)
    (c.requires.parts.within i c.loop-number-test.true))

pub loop-number-preserved : goal.loop-number-preserved
loop-number-preserved c =
    let step = c.args.step in
    let twin = c.args.twin in
    let place = c.args.place in
    let events = c.args.events.now in
    let i = c.loop-number.number in
    let here : c.stuck_at.result ≡ stuck_after step twin place (events_of events i) nothing =
    c.stuck_at.ensures ∙ ap (λ (es : List Event). stuck_after step twin place es nothing) c.part_of.ensures in
    c.join-stuck.ensures ∙ (λ j. stuck_join (c.loop-number.invariant j) (here j)) ∙ stuck_next step twin place events i
