-- A part kills where all events do.
use Rattle.std.proofs.Common.{◌≡◌, ◌||◌, true, false, List, sym, subst, ap, ◌∙◌}
use Rattle.lvdc_fault.specs.Damage.{is_dead}
use Rattle.lvdc_fault.specs.declared.event.Event.{Event}
use Rattle.lvdc_memory.specs.Parts.{events_of, no_part, IsWithin}
use Rattle.lvdc_memory.proofs.Joining.{dead_next, part_kills}
use Rattle.lvdc_memory.proofs.PartLaws.{item_at}
use Rattle.lvdc_memory.proofs.parts.is_dead_now.Goals as goal

pub kills-requires-clause-within : goal.kills-requires-clause-within
kills-requires-clause-within c =
    let i = c.loop-number.number in
    let parts = c.args.parts.now in
    let part = c.index-parts-number.result in
    subst (λ (es : List Event). IsWithin es part) (sym c.part_of.ensures)
    (subst (IsWithin (events_of c.args.events.now i)) (item_at parts i part no_part c.loop-number-test.true c.index-parts-number.is)
    (c.requires.parts.within i c.loop-number-test.true))

pub returns-then-kills : goal.returns-then-kills
returns-then-kills c =
    let step = c.args.step in
    let twin = c.args.twin in
    let pair = c.args.pair in
    let events = c.args.events.now in
    let i = c.loop-number.number in
    let here : is_dead (events_of events i) step twin pair ≡ true =
    ap (λ (es : List Event). is_dead es step twin pair) (sym c.part_of.ensures) ∙ sym c.kills.ensures ∙ c.if-kills.true in
    sym (part_kills step twin pair events i here)

pub loop-number-preserved : goal.loop-number-preserved
loop-number-preserved c =
    let step = c.args.step in
    let twin = c.args.twin in
    let pair = c.args.pair in
    let events = c.args.events.now in
    let i = c.loop-number.number in
    let here : is_dead (events_of events i) step twin pair ≡ false =
    ap (λ (es : List Event). is_dead es step twin pair) (sym c.part_of.ensures) ∙ sym c.kills.ensures ∙ c.if-kills.false in
    dead_next step twin pair events i ∙ (λ j. c.loop-number.invariant j || here j)
