-- When the memory that the code keeps is the memory of a trial's voted machine.
use Rattle.std.specs.Prelude.{◌≡◌, ℕ, ◌<◌, true, List}
use Rattle.std.specs.declared.option.Option.{Option}
use Rattle.lvdc_map.specs.Address.{Spot, IsAddress}
use Rattle.lvdc_map.specs.Memory.{Memory, word_at, memory_of, IsMemory}
use Rattle.lvdc_map.specs.declared.placed.Placed.{Placed}
use Rattle.lvdc_twin.specs.Cells.{cells_of}
use Rattle.lvdc_twin.specs.declared.held.Held.{Held}
use Rattle.lvdc_map.specs.Banks.{IsPlace}
use Rattle.lvdc_twin.specs.Store.{Store, stored_in, stuck_in, is_dead}
use Rattle.lvdc_fault.specs.Ledger.{Intended}
use Rattle.lvdc_fault.specs.Recoverable.{is_recovered}
use Rattle.lvdc_fault.specs.declared.event.Event.{Event}
use Rattle.lvdc_model.specs.Known.{shows_since}
use Rattle.lvdc_model.specs.Trial.{Trial}
use Rattle.lvdc_model.specs.Twins.{Twins}
use Rattle.lvdc_memory.specs.Faults.{stuck_since, is_dead_since}

-- the two twins, with what is stuck and dead in them now, and the intended words
pub record MemoryState : Type 0 where
  pub twins : Store
  pub ledger : Intended

-- the twins are these of the voted machine, with what a step of a script puts in force, or with nothing in force
pub record Carries (in_force : Option ℕ) (script : List Event) (s : Store) (t : Twins) : Type 0 where
  pub cells : (twin : ℕ) → twin < 2 → (place : Spot) → IsPlace place → stored_in s twin place ≡ word_at (t.cells twin) place
  pub selected : s.selected ≡ t.selected
  pub stuck : (twin : ℕ) → twin < 2 → (place : Spot) → IsPlace place → stuck_in s twin place ≡ stuck_since in_force script twin place
  pub dead : (twin : ℕ) → twin < 2 → (pair : ℕ) → pair < 4 → is_dead s twin pair ≡ is_dead_since in_force script twin pair

-- the memory is that of a trial's voted machine with these twins and intended words, while what a step puts in force is so
pub record IsMemoryOf (o : Trial) (in_force : Option ℕ) (m : MemoryState) (t : Twins) (intended : Memory) : Type 0 where
  pub banks : m.twins.banks ≡ o.opening.banks
  pub twins : Carries in_force o.script m.twins t
  pub words : IsMemory m.ledger.words intended

-- the twins store the cells that a list means
abbrev pub StoreCells : List Held → Twins → Type 0
StoreCells held t = (twin : ℕ) → twin < 2 → (place : Spot) → IsPlace place → word_at (t.cells twin) place ≡ word_at (cells_of held twin) place

-- the words of a list are intended, and 0 at every other address
abbrev pub AreIntended : List Placed → Memory → Type 0
AreIntended words intended = (at : Spot) → IsAddress at → word_at intended at ≡ word_at (memory_of words) at

-- the word 0 is intended at an address, and can be recovered there
pub record IsZeroAt (o : Trial) (in_force : Option ℕ) (t : Twins) (intended : Memory) (at : Spot) : Type 0 where
  pub word : word_at intended at ≡ 0
  pub recovered : is_recovered o.opening.banks at (word_at intended at) (λ twin. shows_since in_force o t twin at) ≡ true
