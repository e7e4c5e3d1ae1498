-- What the events that are new in a step change.
use Rattle.std.specs.Prelude.{◌≡◌, ℕ, ◌<◌, if◌then◌else◌, List}
use Rattle.std.specs.declared.option.Option.{Option}
use Rattle.std.specs.declared.option.Option.TheVariants.{None, Some}
use Rattle.std.specs.List.{list_any}
use Rattle.lvdc_map.specs.Address.{Spot}
use Rattle.lvdc_map.specs.Banks.{IsPlace}
use Rattle.lvdc_map.specs.Memory.{word_at}
use Rattle.lvdc_twin.specs.Store.{Store, stored_in, stuck_in}
use Rattle.lvdc_twin.specs.Store as store
use Rattle.lvdc_fault.specs.Damage.{stuck, is_dead}
use Rattle.lvdc_fault.specs.declared.event.Event.{Event}
use Rattle.lvdc_model.specs.Exchanges.{damages}
use Rattle.lvdc_model.specs.Twins.{Twins}
use Rattle.lvdc_memory.specs.Faults.{sticks_at, kills_in}

-- the twins after the damage of a step, if one's is done
abbrev pub damages_in : Option ℕ → List Event → Twins → Twins
damages_in None events t = t
damages_in (Some step) events t = damages step events t

-- the twins store the cells of the voted machine's
abbrev pub StoreThese : Store → Twins → Type 0
StoreThese s t = (twin : ℕ) → twin < 2 → (place : Spot) → IsPlace place → stored_in s twin place ≡ word_at (t.cells twin) place

-- where these events stick and kill, what all put in force in a step is so, and elsewhere all is as before; and the cells are damaged by
-- those of them that damage in the step whose damage is done
pub record Changes (all : List Event) (step : ℕ) (damaged : Option ℕ) (events : List Event) (s u : Store) : Type 0 where
  pub stuck : (twin : ℕ) → twin < 2 → (place : Spot) → IsPlace place
      → stuck_in u twin place ≡ if list_any (sticks_at twin place) events then stuck all step twin place else stuck_in s twin place
  pub dead : (twin : ℕ) → twin < 2 → (pair : ℕ) → pair < 4
      → store.is_dead u twin pair ≡ if list_any (kills_in twin pair) events then is_dead all step twin pair else store.is_dead s twin pair
  pub cells : (t : Twins) → StoreThese s t → StoreThese u (damages_in damaged events t)
  pub selected : u.selected ≡ s.selected
