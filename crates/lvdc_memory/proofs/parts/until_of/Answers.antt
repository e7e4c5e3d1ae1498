-- One event more changes nothing up to the first step at which one of them does.
use Rattle.std.proofs.Common.{take, subst, arith, All}
use Rattle.std.proofs.lemmas.List.{take_all}
use Rattle.std.proofs.lemmas.List.Elements.{All-more, All-weaker}
use Rattle.lvdc_memory.specs.Parts.{StaysUntil}
use Rattle.lvdc_memory.proofs.PartLaws.{stays_less}
use Rattle.lvdc_memory.proofs.parts.until_of.Goals as goal

pub loop-event-preserved : goal.loop-event-preserved
loop-event-preserved c =
    let so_far = c.loop-event.invariant in
    let step = c.args.step in
    let events = c.args.events.now in
    let i = c.loop-event.event-index in
    let next = c.min-until.result in
    let sooner = c.min-until.ensures in
    All-more (StaysUntil step next) events i c.event-item.result c.loop-event-test.true
    (All-weaker (StaysUntil step c.loop-event.until) (StaysUntil step next) (λ e was. stays_less step c.loop-event.until next e (omega (arith, sooner)) was) (take i events) so_far)
    (subst (StaysUntil step next) c.event-item.is (stays_less step c.change_of.result next c.event-item.result (omega (arith, sooner)) c.change_of.ensures))

pub returns : goal.returns
returns c =
    subst (All (StaysUntil c.args.step c.loop-event.until)) (take_all c.loop-event.event-index c.args.events.now c.loop-event-test.false) c.loop-event.invariant
