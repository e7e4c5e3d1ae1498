-- One event more has no lower number.
use Rattle.std.proofs.Common.{◌≤◌, take, subst, arith, All}
use Rattle.std.proofs.lemmas.List.{take_all}
use Rattle.std.proofs.lemmas.List.Elements.{All-more, All-weaker}
use Rattle.lvdc_fault.specs.declared.event.Event.{Event}
use Rattle.lvdc_memory.specs.Order.{number_of_event}
use Rattle.lvdc_memory.proofs.parts.lowest_number.Goals as goal

pub loop-event-preserved : goal.loop-event-preserved
loop-event-preserved c =
    let events = c.args.events.now in
    let i = c.loop-event.event-index in
    let before = c.loop-event.low in
    let next = c.min-low.result in
    let lower = c.min-low.ensures in
    All-more (λ (e : Event). next ≤ number_of_event e) events i c.event-item.result c.loop-event-test.true
    (All-weaker (λ (e : Event). before ≤ number_of_event e) (λ (e : Event). next ≤ number_of_event e) (λ e was. omega (arith, was, lower)) (take i events) c.loop-event.invariant)
    (subst (λ (e : Event). next ≤ number_of_event e) c.event-item.is (omega (arith, lower, c.number_of_event.ensures)))

pub returns : goal.returns
returns c =
    subst (All (λ (e : Event). c.loop-event.low ≤ number_of_event e)) (take_all c.loop-event.event-index c.args.events.now c.loop-event-test.false) c.loop-event.invariant
