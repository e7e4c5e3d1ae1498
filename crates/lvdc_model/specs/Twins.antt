-- The memory of the voted machine: what each of two twins stores, and which is selected in each pair.
use Rattle.std.specs.Prelude.{ℕ, ◌-◌, ◌/◌, Bool, true, false, ◌==◌, if◌then◌else◌, List, [], ◌∷◌, slice_index, slice_set, Option, Some, None, Result}
use Rattle.lvdc_word.specs.Cell.{code_of}
use Rattle.lvdc_map.specs.Address.{Spot}
use Rattle.lvdc_map.specs.Banks.{is_simplex, home, holds, held_at}
use Rattle.lvdc_map.specs.Memory.{Memory, word_at, stored, memory_of}
use Rattle.lvdc_twin.specs.Calls.{answer_by_one, answer_by_two}
use Rattle.lvdc_twin.specs.declared.both_bad.BothBad.{BothBad}
use Rattle.lvdc_twin.specs.declared.read_out.ReadOut.{ReadOut}
use Rattle.lvdc_model.specs.Trial.{Trial}
use Rattle.lvdc_model.specs.CellsBefore.{is_dead_at, shown_with}

-- by twin the cell at each physical place, and by pair the twin selected
pub record Twins : Type 0 where
  pub cells : ℕ → Memory
  pub selected : List ℕ

-- the cell that a twin stores at the place of an address
abbrev pub cell_at : Twins → ℕ → Spot → ℕ
cell_at t twin at = word_at (t.cells twin) (home at)

-- a twin stores a cell at a physical place
abbrev pub with_place : Twins → ℕ → Spot → ℕ → Twins
with_place t twin place cell = record t { cells = λ w. if w == twin then stored (t.cells w) place cell else t.cells w }

-- a twin stores a cell at the place of an address
abbrev pub with_cell : Twins → ℕ → Spot → ℕ → Twins
with_cell t twin at cell = with_place t twin (home at) cell

-- a twin is selected in a pair
abbrev pub with_selected : Twins → ℕ → ℕ → Twins
with_selected t pair twin = record t { selected = slice_set t.selected pair twin }

-- a twin stores the code of a word, unless it is dead in this step
abbrev pub with_word : Trial → ℕ → Twins → ℕ → Spot → ℕ → Twins
with_word o step t twin at w = if is_dead_at o step twin at then t else with_cell t twin at (code_of w)

-- what a twin shows in a step
abbrev pub shows : Trial → ℕ → Twins → ℕ → Spot → ℕ
shows o step t twin at = shown_with o step twin at (cell_at t twin at)

-- what a read answers: in a simplex pair the twin that holds the bank is read, in a duplex pair the selected one first
abbrev pub answer_by : Bool → Trial → ℕ → Twins → Spot → Result ReadOut BothBad
answer_by true o step t at = answer_by_one (shows o step t (at.pair / 4) at)
answer_by false o step t at =
    let selected = slice_index t.selected (home at).pair in
    answer_by_two selected (shows o step t selected at) (shows o step t (1 - selected) at)

-- what a read answers in a step
abbrev pub read_answer : Trial → ℕ → Twins → Spot → Result ReadOut BothBad
read_answer o step t at = answer_by (is_simplex o.opening.banks (home at).pair) o step t at

-- the twin to be repaired stores the word used
abbrev pub rewritten : Option ℕ → Trial → ℕ → Twins → Spot → ℕ → Twins
rewritten None o step t at w = t
rewritten (Some twin) o step t at w = with_word o step t twin at w

-- where the read switched, the other twin is selected
abbrev pub switched_by : Bool → Twins → ℕ → Twins
switched_by switched t pair = if switched then with_selected t pair (1 - slice_index t.selected pair) else t

-- what a read leaves
abbrev pub after_read : Trial → ℕ → Twins → Spot → ReadOut → Twins
after_read o step t at r = switched_by r.switched (rewritten r.repaired o step t at r.word) (home at).pair

-- a twin that holds the address stores the word
abbrev pub with_held : Trial → ℕ → ℕ → Spot → ℕ → Twins → Twins
with_held o step twin at w t = if holds o.opening.banks twin at then with_word o step t twin at w else t

-- what a store leaves: each twin that holds the address stores the word
abbrev pub after_store : Trial → ℕ → Spot → ℕ → Twins → Twins
after_store o step at w t = with_held o step 1 at w (with_held o step 0 at w t)

-- at the start each twin stores the image's words at the addresses that it holds, and twin 0 is selected
abbrev pub twins_at_start : Trial → Twins
twins_at_start o =
    record {
      cells = λ twin. λ place. code_of (word_at (memory_of o.opening.image) (held_at o.opening.banks twin place));
      selected = 0 ∷ 0 ∷ 0 ∷ 0 ∷ [];
    }
