-- Where no event of the part may have the number, none of them sticks bits here.
use Rattle.std.proofs.Common.{◌≡◌, sym, ◌∙◌}
use Rattle.std.proofs.lemmas.List.Elements.{All-weaker}
use Rattle.lvdc_twin.specs.Store.{nothing}
use Rattle.lvdc_memory.specs.Order.{number_of_event, number_of_place}
use Rattle.lvdc_memory.specs.Parts.{IsBetween}
use Rattle.lvdc_memory.proofs.PartLaws.{IsElsewhere, none_stuck}
use Rattle.lvdc_memory.proofs.parts.Part.stuck_at.Goals as goal

pub returns-then-not-may_have : goal.returns-then-not-may_have
returns-then-not-may_have c =
    let part = c.args.self.now in
    let events = c.args.events.now in
    let step = c.args.step in
    let twin = c.args.twin in
    let place = c.args.place in
    c.nothing_stuck.ensures
    ∙ sym
    (none_stuck step twin place events nothing
    (All-weaker (IsBetween part.low part.high) (IsElsewhere twin place)
    (λ e between (same : number_of_event e ≡ number_of_place twin place). c.may_have.ensures c.if-not-may_have.true e between (same ∙ sym c.number_of_place.ensures)) events
    c.requires.within))
