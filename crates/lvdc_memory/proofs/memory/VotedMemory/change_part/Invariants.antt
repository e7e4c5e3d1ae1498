-- The events so far that are new changed what they change.
use Rattle.std.proofs.Common.{◌≡◌, take}
use Rattle.lvdc_memory.specs.Changes.{Changes}
use Rattle.lvdc_memory.specs.News.{new_events}
use Rattle.lvdc_memory.proofs.memory.VotedMemory.change_part.Given as goal

abbrev pub invariant-loop-event : goal.invariant-loop-event
invariant-loop-event l =
    record {
      changes : Changes l.by.events.now l.by.step l.by.damaged (new_events l.by.last l.by.step (take l.event-index l.events)) l.initial.self.twins l.self.twins;
      banks : l.self.twins.banks ≡ l.initial.self.twins.banks;
      ledger : l.self.ledger ≡ l.initial.self.ledger;
    }
