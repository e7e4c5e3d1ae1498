-- What a read and a write of the memory of two twins answer and leave.
use Rattle.std.specs.Prelude.{◌≡◌, ℕ, ◌-◌, ◌/◌, ◌<◌, Bool, true, false, not, ◌&&◌, ◌==◌, if◌then◌else◌, List, [], ◌∷◌, Option, Some, None, IfSome, Result, Ok, Err, IsOkAnd}
use Rattle.lvdc_word.specs.Cell.{code_of, is_good, word_in}
use Rattle.lvdc_map.specs.Address.{Spot, is_same}
use Rattle.lvdc_map.specs.Banks.{is_simplex, home, holds, held_at, IsPlace}
use Rattle.lvdc_map.specs.Memory.{word_at, memory_of}
use Rattle.lvdc_map.specs.declared.placed.Placed.{Placed}
use Rattle.lvdc_twin.specs.declared.both_bad.BothBad.{BothBad}
use Rattle.lvdc_twin.specs.declared.read_out.ReadOut.{ReadOut}
use Rattle.lvdc_twin.specs.Store.{Store, nothing, stored_in, stuck_in, is_dead, selected_in, shown_in, survives, with_word, with_selected, IsStore, with_cell, with_stuck_bits, with_dead}
use Rattle.lvdc_twin.specs.declared.stuck.Stuck.{Stuck}

-- ---- a new memory

-- each twin stores the words of an image at the addresses that it holds, and 0 elsewhere; twin 0 is selected in each pair,
-- and nothing is stuck or dead
pub record Begins (banks : ℕ) (image : List Placed) (t : Store) : Type 0 where
  pub banks_are : t.banks ≡ banks
  pub cells : (twin : ℕ) → twin < 2 → (place : Spot) → IsPlace place → stored_in t twin place ≡ code_of (word_at (memory_of image) (held_at banks twin place))
  pub stuck : (twin : ℕ) (place : Spot) → stuck_in t twin place ≡ nothing
  pub dead : (twin pair : ℕ) → is_dead t twin pair ≡ false
  pub selected : t.selected ≡ 0 ∷ 0 ∷ 0 ∷ 0 ∷ []

-- ---- a read

-- of a duplex pair, by the cells that the selected twin and the other one show
abbrev pub answer_by_two : ℕ → ℕ → ℕ → Result ReadOut BothBad
answer_by_two selected mine others =
    if is_good mine then Ok (record { word = word_in mine; repaired = if is_good others then None else Some (1 - selected); switched = false })
    else (if is_good others then Ok (record { word = word_in others; repaired = Some selected; switched = true }) else Err (record {}))

-- of a simplex pair, by the cell that the twin with the bank shows
abbrev pub answer_by_one : ℕ → Result ReadOut BothBad
answer_by_one shown = if is_good shown then Ok (record { word = word_in shown; repaired = None; switched = false }) else Err (record {})

-- what a read answers
abbrev pub answer_of : Store → Spot → Result ReadOut BothBad
answer_of t at =
    let place = home at in
    let selected = selected_in t place.pair in
    if is_simplex t.banks place.pair then answer_by_one (shown_in t (at.pair / 4) place)
    else answer_by_two selected (shown_in t selected place) (shown_in t (1 - selected) place)

-- the twin repaired stores the code of the word, unless it is dead
abbrev pub repaired_by : Option ℕ → Store → Spot → ℕ → Store
repaired_by None t place w = t
repaired_by (Some twin) t place w = with_word t twin place w

-- where the read switched, the other twin is selected
abbrev pub switched_by : Bool → Store → ℕ → Store
switched_by switched t pair = if switched then with_selected t pair (1 - selected_in t pair) else t

-- what a read leaves, by its answer
abbrev pub after_answer : Result ReadOut BothBad → Store → Spot → Store
after_answer (Ok r) t place = switched_by r.switched (repaired_by r.repaired t place r.word) place.pair
after_answer (Err _) t place = t

-- whether each twin that holds an address shows this cell there
abbrev pub all_show : Store → Spot → ℕ → Bool
all_show t at cell =
    let place = home at in
    if is_simplex t.banks place.pair then shown_in t (at.pair / 4) place == cell
    else (shown_in t 0 place == cell && shown_in t 1 place == cell)

-- ---- the law of repair

-- the code of a word survives in what the twins show
abbrev pub shows_word : Store → Spot → ℕ → Bool
shows_word t place w = survives (code_of w) (shown_in t 0 place) (shown_in t 1 place)

-- whether it is this twin that a read repairs
abbrev pub is_repaired : Option ℕ → ℕ → Bool
is_repaired None twin = false
is_repaired (Some repaired) twin = twin == repaired

-- a read found the word, and repairs each twin that shows a bad cell and no other
pub record Finds (w : ℕ) (shown : ℕ → ℕ) (answer : Result ReadOut BothBad) : Type 0 where
  pub out : ReadOut
  pub is : answer ≡ Ok out
  pub word : out.word ≡ w
  pub twin : IfSome out.repaired (λ twin. twin < 2)
  pub bad : (twin : ℕ) → twin < 2 → is_repaired out.repaired twin ≡ not (is_good (shown twin))

-- a twin that isn't dead and shows a bad cell: a read mends it
abbrev pub is_mendable : Store → ℕ → Spot → Bool
is_mendable t twin place = not (is_dead t twin place.pair) && not (is_good (shown_in t twin place))

-- the read found the word; each twin that it mended stores the word's code there, and every other stored cell is as before
pub record Mends (t u : Store) (place : Spot) (w : ℕ) (answer : Result ReadOut BothBad) : Type 0 where
  pub found : IsOkAnd answer (λ r. r.word ≡ w)
  pub cells : (twin : ℕ) → twin < 2 → (other : Spot) → IsPlace other
      → stored_in u twin other ≡ if is_same other place && is_mendable t twin place then code_of w else stored_in t twin other

-- no twin that holds an address shows a good cell there
abbrev pub NoneGood : Store → Spot → Type 0
NoneGood t at = (twin : ℕ) → twin < 2 → holds t.banks twin at ≡ true → is_good (shown_in t twin (home at)) ≡ false

-- ---- a write

-- a twin that holds the address stores the code of the word, unless it is dead
abbrev pub with_held : Store → ℕ → Spot → ℕ → Store
with_held t twin at w = if holds t.banks twin at then with_word t twin (home at) w else t

-- each twin that holds the address does
abbrev pub after_write : Store → Spot → ℕ → Store
after_write t at w = with_held (with_held t 0 at w) 1 at w

-- ---- the law of one change

-- a change at a place of a twin, or of a mark, is seen there and nowhere else; a held word leaves the memory whole, with its
-- banks
pub record ChangesAreLocal : Type 0 where
  pub cells : (t : Store) (twin : ℕ) (place : Spot) (cell w : ℕ) (other : Spot) → IsStore t → twin < 2 → w < 2 → IsPlace place → IsPlace other
      → stored_in (with_cell t twin place cell) w other ≡ if w == twin && is_same other place then cell else stored_in t w other
  pub stuck : (t : Store) (twin : ℕ) (place : Spot) (bits : Stuck) (w : ℕ) (other : Spot) → IsStore t → twin < 2 → w < 2 → IsPlace place → IsPlace other
      → stuck_in (with_stuck_bits t twin place bits) w other ≡ if w == twin && is_same other place then bits else stuck_in t w other
  pub dead : (t : Store) (twin pair : ℕ) (on : Bool) (w other : ℕ) → IsStore t → twin < 2 → pair < 4 → w < 2 → other < 4
      → is_dead (with_dead t twin pair on) w other ≡ if w == twin && other == pair then on else is_dead t w other
  pub whole : (t : Store) (twin : ℕ) (at : Spot) (w : ℕ) → IsStore t → IsStore (with_held t twin at w)
  pub banks : (t : Store) (twin : ℕ) (at : Spot) (w : ℕ) → (with_held t twin at w).banks ≡ t.banks
