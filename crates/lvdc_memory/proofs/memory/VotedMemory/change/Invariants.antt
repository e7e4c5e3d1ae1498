-- The events of the parts so far that are new changed what they change.
use Rattle.std.proofs.Common.{◌≡◌, ◌*◌, take}
use Rattle.lvdc_memory.specs.Changes.{Changes}
use Rattle.lvdc_memory.specs.News.{new_events}
use Rattle.lvdc_memory.proofs.memory.VotedMemory.change.Given as goal

abbrev pub invariant-loop-number : goal.invariant-loop-number
invariant-loop-number l =
    record {
      changes : Changes l.by.events.now l.by.step l.by.damaged (new_events l.by.last l.by.step (take (256 * l.number) l.by.events.now)) l.initial.self.twins l.self.twins;
      banks : l.self.twins.banks ≡ l.initial.self.twins.banks;
      ledger : l.self.ledger ≡ l.initial.self.ledger;
    }
