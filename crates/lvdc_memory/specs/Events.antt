-- The events on memory, and what is known of their parts.
use Rattle.std.specs.Prelude.{◌≡◌, ◌≢◌, ℕ, ◌≤◌, ◌<◌, List, [], length, All, Option, IfSome}
use Rattle.lvdc_fault.specs.Events.{IsEvent}
use Rattle.lvdc_fault.specs.declared.event.Event.{Event}
use Rattle.lvdc_memory.specs.News.{new_events}
use Rattle.lvdc_memory.specs.Parts.{events_of, part_at, AreParts, AreRightSince}
use Rattle.lvdc_memory.specs.declared.events.MemoryEvents.TheInside.{Inside}
use Rattle.lvdc_memory.specs.declared.parts.Part.{Part}

-- the events on memory in the order in which they are kept, and the step of which what they stick and kill is in force, if one is
pub record MemoryEvents : Type 0 where
  pub events : List Event
  pub last : Option ℕ

-- each part is right up to this step at least
abbrev pub LastUntil : ℕ → List Part → Type 0
LastUntil until parts = (k : ℕ) → k < length parts → until ≤ (part_at parts k).until

-- a part that isn't right since a step only has no event that is new in it
abbrev pub AreOld : List Event → List Part → Option ℕ → ℕ → Type 0
AreOld events parts last step = (k : ℕ) → k < length parts → (part_at parts k).since ≢ step → new_events last step (events_of events k) ≡ []

-- what is true of all that are kept: the numbers of the events are in their ranges, the parts are theirs, and each is right at the
-- step in force and up to that at which one may not be
pub record AreKept (m : Inside) : Type 0 where
  pub events : All IsEvent m.events.items
  pub parts : AreParts m.events.items m.parts.items
  pub right : AreRightSince m.events.items m.last m.parts.items
  pub until : IfSome m.last (λ step. LastUntil m.until m.parts.items)
