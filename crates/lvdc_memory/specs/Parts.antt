-- The events on memory in parts of 256: what each part sticks and kills, and for how long.
use Rattle.std.specs.Prelude.{◌≡◌, ◌≢◌, ℕ, ◌+◌, ◌*◌, ◌≤◌, ◌<◌, Bool, false, List, ◌∷◌, length, take, drop, All, Option, slice_index_or, IfSome}
use Rattle.lvdc_twin.specs.Store.{nothing}
use Rattle.lvdc_twin.specs.declared.stuck.Stuck.{Stuck}
use Rattle.lvdc_fault.specs.Damage.{stuck_after, is_dead}
use Rattle.lvdc_fault.specs.Script.{is_active}
use Rattle.lvdc_fault.specs.declared.event.Event.{Event}
use Rattle.lvdc_fault.specs.declared.event.Event.TheVariants.{Damage, Stick, Dead}
use Rattle.lvdc_memory.specs.Order.{number_of_event}
use Rattle.lvdc_memory.specs.declared.parts.Part.{Part}

-- an event changes nothing between two steps: no damage is done there, and any other event is active where it is at the first
abbrev pub StaysUntil : ℕ → ℕ → Event → Type 0
StaysUntil step until (Damage twin at damaged mask) = (t : ℕ) → step < t → t < until → damaged ≢ t
StaysUntil step until e = (t : ℕ) → step ≤ t → t < until → is_active t e ≡ is_active step e

-- the number of an event lies between two
pub record IsBetween (lowest highest : ℕ) (e : Event) : Type 0 where
  pub low : lowest ≤ number_of_event e
  pub high : number_of_event e ≤ highest

-- what events stick in a step where the first of them sticks bits; nothing where it doesn't
abbrev pub stuck_first : List Event → ℕ → Stuck
stuck_first (Stick twin at first last mask value ∷ es) step = stuck_after step twin at (Stick twin at first last mask value ∷ es) nothing
stuck_first _ step = nothing

-- do events kill in a step the twin that the first of them kills?
abbrev pub is_first_dead : List Event → ℕ → Bool
is_first_dead (Dead twin pair first last ∷ es) step = is_dead (Dead twin pair first last ∷ es) step twin pair
is_first_dead _ step = false

-- the events of a part, by its number
abbrev pub events_of : List Event → ℕ → List Event
events_of events k = take 256 (drop (256 * k) events)

-- what is told of a part is so at a step, and its events change nothing up to another
pub record IsRight (events : List Event) (step : ℕ) (p : Part) : Type 0 where
  pub stays : All (StaysUntil step p.until) events
  pub stuck : p.stuck ≡ stuck_first events step
  pub dead : p.dead ≡ is_first_dead events step

-- all numbers of the events of a part lie between its two
abbrev pub IsWithin : List Event → Part → Type 0
IsWithin events p = All (IsBetween p.low p.high) events

-- nothing is known of a part
abbrev pub no_part : Part
no_part = record { low = 0; high = 0; since = 0; until = 0; stuck = nothing; dead = false }

-- a part by its number
abbrev pub part_at : List Part → ℕ → Part
part_at parts k = slice_index_or parts k no_part

-- the parts hold all events, and the numbers of each part lie between its two
pub record AreParts (events : List Event) (parts : List Part) : Type 0 where
  pub whole : length events ≤ 256 * length parts
  pub few : 256 * length parts ≤ length events + 255
  pub within : (k : ℕ) → k < length parts → IsWithin (events_of events k) (part_at parts k)

-- each part is right at a step
abbrev pub AreRight : List Event → ℕ → List Part → Type 0
AreRight events step parts = (k : ℕ) → k < length parts → IsRight (events_of events k) step (part_at parts k)

-- each part is right at a step, if there is one
abbrev pub AreRightSince : List Event → Option ℕ → List Part → Type 0
AreRightSince events last parts = IfSome last (λ step. AreRight events step parts)
