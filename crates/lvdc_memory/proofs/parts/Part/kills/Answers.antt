-- Where no event of the part may have the number, none of them kills the twin.
use Rattle.std.proofs.Common.{◌≡◌, sym, ◌∙◌}
use Rattle.std.proofs.lemmas.List.Elements.{All-weaker}
use Rattle.lvdc_memory.specs.Order.{number_of_event, number_of_pair}
use Rattle.lvdc_memory.specs.Parts.{IsBetween}
use Rattle.lvdc_memory.proofs.PartLaws.{IsOther, none_dead}
use Rattle.lvdc_memory.proofs.parts.Part.kills.Goals as goal

pub returns-then-not-may_have : goal.returns-then-not-may_have
returns-then-not-may_have c =
    let part = c.args.self.now in
    let events = c.args.events.now in
    let step = c.args.step in
    let twin = c.args.twin in
    let pair = c.args.pair in
    sym
    (none_dead step twin pair events
    (All-weaker (IsBetween part.low part.high) (IsOther twin pair)
    (λ e between (same : number_of_event e ≡ number_of_pair twin pair). c.may_have.ensures c.if-not-may_have.true e between (same ∙ sym c.number_of_pair.ensures)) events
    c.requires.within))
