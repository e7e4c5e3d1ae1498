-- One event more has no higher number.
use Rattle.std.proofs.Common.{◌≤◌, take, subst, arith, All}
use Rattle.std.proofs.lemmas.List.{take_all}
use Rattle.std.proofs.lemmas.List.Elements.{All-more, All-weaker}
use Rattle.lvdc_fault.specs.declared.event.Event.{Event}
use Rattle.lvdc_memory.specs.Order.{number_of_event}
use Rattle.lvdc_memory.proofs.parts.highest_number.Goals as goal

pub loop-event-preserved : goal.loop-event-preserved
loop-event-preserved c =
    let events = c.args.events.now in
    let i = c.loop-event.event-index in
    let before = c.loop-event.high in
    let next = c.max-high.result in
    let higher = c.max-high.ensures in
    All-more (λ (e : Event). number_of_event e ≤ next) events i c.event-item.result c.loop-event-test.true
    (All-weaker (λ (e : Event). number_of_event e ≤ before) (λ (e : Event). number_of_event e ≤ next) (λ e was. omega (arith, was, higher)) (take i events) c.loop-event.invariant)
    (subst (λ (e : Event). number_of_event e ≤ next) c.event-item.is (omega (arith, higher, c.number_of_event.ensures)))

pub returns : goal.returns
returns c =
    subst (All (λ (e : Event). number_of_event e ≤ c.loop-event.high)) (take_all c.loop-event.event-index c.args.events.now c.loop-event-test.false) c.loop-event.invariant
