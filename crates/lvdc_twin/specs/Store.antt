-- The memory of two twins: what each stores and shows, where it is dead, and which is selected.
use Rattle.std.specs.Prelude.{◌≡◌, ℕ, ◌+◌, ◌*◌, ◌<◌, Bool, true, false, not, ◌==◌, ◌&&◌, ◌||◌, if◌then◌else◌, List, length, slice_index, slice_index_or, slice_set}
use Rattle.lvdc_word.specs.Cell.{code_of, with_stuck, is_good}
use Rattle.lvdc_map.specs.Address.{Spot, number_of}
use Rattle.lvdc_twin.specs.declared.stuck.Stuck.{Stuck}

-- which pairs are simplex; by twin and place the stored cells, and what is stuck in them; by twin and pair the dead marks;
-- by pair the twin selected
pub record Store : Type 0 where
  pub banks : ℕ
  pub cells : List ℕ
  pub stuck : List Stuck
  pub dead : List Bool
  pub selected : List ℕ

-- each table is whole, and each selection is of a twin
pub record IsStore (t : Store) : Type 0 where
  pub cells : length t.cells ≡ 32768
  pub stuck : length t.stuck ≡ 32768
  pub dead : length t.dead ≡ 8
  pub pairs : length t.selected ≡ 4
  pub selected : (pair : ℕ) → slice_index t.selected pair < 2

-- where a place of a twin stands in a table: those of twin 0 come first
abbrev pub slot_of : ℕ → Spot → ℕ
slot_of twin place = twin * 16384 + number_of place

-- ---- what the memory holds

-- the cell that a twin stores at a place
abbrev pub stored_in : Store → ℕ → Spot → ℕ
stored_in t twin place = slice_index t.cells (slot_of twin place)

-- no bit is stuck
abbrev pub nothing : Stuck
nothing = record { mask = 0; value = 0 }

-- what is stuck at a place of a twin: the bits under the mask are the value's
abbrev pub stuck_in : Store → ℕ → Spot → Stuck
stuck_in t twin place = slice_index_or t.stuck (slot_of twin place) nothing

-- is a twin dead in a pair?
abbrev pub is_dead : Store → ℕ → ℕ → Bool
is_dead t twin pair = slice_index_or t.dead (twin * 4 + pair) false

-- the twin selected in a pair
abbrev pub selected_in : Store → ℕ → ℕ
selected_in t pair = slice_index t.selected pair

-- nothing is stuck at any place, and no twin is dead
pub record IsBare (t : Store) : Type 0 where
  pub stuck : (twin : ℕ) (place : Spot) → stuck_in t twin place ≡ nothing
  pub dead : (twin pair : ℕ) → is_dead t twin pair ≡ false

-- the memory is whole, and where it is noted as bare, it is
pub record IsNoted (t : Store) (noted : Bool) : Type 0 where
  pub whole : IsStore t
  pub bare : noted ≡ true → IsBare t

-- what a twin shows at a place: 0 while it is dead, else the stored cell with its stuck bits replaced
abbrev pub shown_in : Store → ℕ → Spot → ℕ
shown_in t twin place =
    if is_dead t twin place.pair then 0
    else with_stuck (stored_in t twin place) (stuck_in t twin place).mask (stuck_in t twin place).value

-- a cell survives in what the two twins show: at least one shows it, and a twin that shows another cell shows a bad one
abbrev pub survives : ℕ → ℕ → ℕ → Bool
survives cell zeroth first =
    (zeroth == cell || first == cell) && (zeroth == cell || not (is_good zeroth)) && (first == cell || not (is_good first))

-- ---- one change

-- a twin stores this cell
abbrev pub with_cell : Store → ℕ → Spot → ℕ → Store
with_cell t twin place cell = record t { cells = slice_set t.cells (slot_of twin place) cell }

-- a twin stores the code of a word, unless it is dead
abbrev pub with_word : Store → ℕ → Spot → ℕ → Store
with_word t twin place w = if is_dead t twin place.pair then t else with_cell t twin place (code_of w)

-- these bits are stuck at a place of a twin, and no others
abbrev pub with_stuck_bits : Store → ℕ → Spot → Stuck → Store
with_stuck_bits t twin place bits = record t { stuck = slice_set t.stuck (slot_of twin place) bits }

-- a twin is dead in a pair, or isn't
abbrev pub with_dead : Store → ℕ → ℕ → Bool → Store
with_dead t twin pair on = record t { dead = slice_set t.dead (twin * 4 + pair) on }

-- a twin is selected in a pair
abbrev pub with_selected : Store → ℕ → ℕ → Store
with_selected t pair twin = record t { selected = slice_set t.selected pair twin }
