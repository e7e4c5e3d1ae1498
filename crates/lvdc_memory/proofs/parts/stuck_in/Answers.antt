-- One event more sticks its bits after all others.
use Rattle.std.proofs.Common.{List, take, sym, ap, ◌∙◌}
use Rattle.std.proofs.lemmas.List.{take_all}
use Rattle.lvdc_twin.specs.Store.{nothing}
use Rattle.lvdc_fault.specs.Damage.{stuck_by, stuck_after}
use Rattle.lvdc_fault.specs.declared.event.Event.{Event}
use Rattle.lvdc_memory.proofs.Joining.{after_push}
use Rattle.lvdc_memory.proofs.PartLaws.{take_next}
use Rattle.lvdc_memory.proofs.parts.stuck_in.Goals as goal

pub loop-event-preserved : goal.loop-event-preserved
loop-event-preserved c =
    let step = c.args.step in
    let twin = c.args.twin in
    let place = c.args.place in
    let events = c.args.events.now in
    let i = c.loop-event.event-index in
    let e = c.event-item.result in
    c.stuck_with-stuck.ensures
    ∙ ap (stuck_by step twin place e) c.loop-event.invariant
    ∙ sym (after_push step twin place (take i events) e nothing)
    ∙ ap (λ (es : List Event). stuck_after step twin place es nothing) (sym (take_next events i e c.loop-event-test.true c.event-item.is))

pub returns : goal.returns
returns c =
    c.loop-event.invariant
    ∙ ap (λ (es : List Event). stuck_after c.args.step c.args.twin c.args.place es nothing) (take_all c.loop-event.event-index c.args.events.now c.loop-event-test.false)
