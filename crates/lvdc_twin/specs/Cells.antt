-- The cells of the two twins as a list.
use Rattle.std.specs.Prelude.{◌≡◌, ◌≢◌, ℕ, ◌<◌, Bool, true, false, ◌==◌, ◌&&◌, nat_lt, if◌then◌else◌, List, [], ◌∷◌, All, slice_index}
use Rattle.lvdc_word.specs.Cell.{code_of}
use Rattle.lvdc_map.specs.Address.{Spot}
use Rattle.lvdc_map.specs.Memory.{Memory, filled_with, stored, word_at}
use Rattle.lvdc_map.specs.Banks.{IsPlace}
use Rattle.lvdc_twin.specs.Store.{Store, nothing, slot_of, stored_in, stuck_in, is_dead}
use Rattle.lvdc_twin.specs.declared.held.Held.{Held}

-- it names a place of one of the two twins: a pair, a sector and a location
pub record NamesPlace (h : Held) : Type 0 where
  pub twin : h.twin < 2
  pub pair : h.at.pair < 4
  pub sector : h.at.sector < 16
  pub loc : h.at.loc < 256

-- the cells of the twins with those of a list at their places
abbrev pub laid : List Held → (ℕ → Memory) → ℕ → Memory
laid [] cells = cells
laid (h ∷ hs) cells = laid hs (λ twin. if twin == h.twin then stored (cells twin) h.at h.cell else cells twin)

-- the cells that a list means: its own, and that of the word 0 at every other place
abbrev pub cells_of : List Held → ℕ → Memory
cells_of held = laid held (λ twin. filled_with (code_of 0))

-- the cells rise strictly by twin and place
abbrev pub are_rising : List Held → Bool
are_rising [] = true
are_rising (h ∷ []) = true
are_rising (h ∷ k ∷ hs) = nat_lt (slot_of h.twin h.at) (slot_of k.twin k.at) && are_rising (k ∷ hs)

-- the memory stores the cells that a list means, with these twins selected; nothing is stuck or dead
pub record HasCells (banks : ℕ) (held : List Held) (twins : List ℕ) (t : Store) : Type 0 where
  pub banks_are : t.banks ≡ banks
  pub cells : (twin : ℕ) → twin < 2 → (place : Spot) → IsPlace place → stored_in t twin place ≡ word_at (cells_of held twin) place
  pub stuck : (twin : ℕ) (place : Spot) → stuck_in t twin place ≡ nothing
  pub dead : (twin pair : ℕ) → is_dead t twin pair ≡ false
  pub selected : t.selected ≡ twins

-- the list holds the cells that a memory stores, but for those of the word 0, each once and in order
pub record AreHeld (t : Store) (held : List Held) : Type 0 where
  pub rising : are_rising held ≡ true
  pub places : All NamesPlace held
  pub others : All (λ h. h.cell ≢ code_of 0) held
  pub cells : (twin : ℕ) → twin < 2 → (place : Spot) → IsPlace place → stored_in t twin place ≡ word_at (cells_of held twin) place

-- what was gathered from the slots of a table below a number
pub record Gathers (table : List ℕ) (n : ℕ) (held : List Held) : Type 0 where
  pub rising : are_rising held ≡ true
  pub places : All NamesPlace held
  pub others : All (λ h. h.cell ≢ code_of 0) held
  pub below : All (λ h. slot_of h.twin h.at < n) held
  pub cells : (twin : ℕ) → twin < 2 → (place : Spot) → IsPlace place
      → word_at (cells_of held twin) place ≡ if nat_lt (slot_of twin place) n then slice_index table (slot_of twin place) else code_of 0
