-- The order in which the events on memory are kept: all that act on one place of a twin, or on one twin of a pair, stand together, as
-- they follow each other in the script.
use Rattle.std.specs.Prelude.{◌≡◌, ℕ, ◌+◌, ◌*◌, Bool, ◌==◌, List, filter, All}
use Rattle.lvdc_map.specs.Address.{Spot, number_of}
use Rattle.lvdc_fault.specs.Events.{IsEvent}
use Rattle.lvdc_fault.specs.declared.event.Event.{Event}
use Rattle.lvdc_fault.specs.declared.event.Event.TheVariants.{Stick, Dead}
use Rattle.lvdc_memory.specs.OnMemory.{on_memory}

-- the number of a twin of a pair, from 1
abbrev pub number_of_pair : ℕ → ℕ → ℕ
number_of_pair twin pair = 1 + (4 * twin + pair)

-- the number of a place of a twin, from 9
abbrev pub number_of_place : ℕ → Spot → ℕ
number_of_place twin place = 9 + (2 * number_of place + twin)

-- the number of what an event sticks or kills; 0 where it does neither
abbrev pub number_of_event : Event → ℕ
number_of_event (Stick twin at first last mask value) = number_of_place twin at
number_of_event (Dead twin pair first last) = number_of_pair twin pair
number_of_event _ = 0

-- does an event have this number?
abbrev pub has_number : ℕ → Event → Bool
has_number number e = number_of_event e == number

-- these are the events of a script on memory, and those with one number follow each other as in the script
pub record AreOnMemory (script ordered : List Event) : Type 0 where
  pub same : (number : ℕ) → filter (has_number number) ordered ≡ filter (has_number number) (on_memory script)
  pub events : All IsEvent ordered
