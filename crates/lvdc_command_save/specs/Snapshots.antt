-- The snapshot of a state: its copies, its memory and its counts as lists.
use Rattle.std.specs.Prelude.{ℕ, ◌/◌, ◌%◌, ◌==◌, Bool, not, List, [], ◌∷◌, ◌++◌, map}
use Rattle.std.specs.List.{concat, filter, range_with_len}
use Rattle.lvdc_word.specs.Cell.{code_of}
use Rattle.lvdc_map.specs.Address.{spot_at}
use Rattle.lvdc_map.specs.Memory.{Memory, word_at}
use Rattle.lvdc_map.specs.declared.placed.Placed.{Placed}
use Rattle.lvdc_twin.specs.declared.held.Held.{Held}
use Rattle.lvdc_vote.specs.Copies.{Copies}
use Rattle.lvdc_model.specs.Twins.{Twins}
use Rattle.lvdc_model.specs.Voted.{Voted}
use Rattle.lvdc_snapshot.specs.declared.snapshot.Snapshot.{Snapshot}

-- the latches of the copies of all modules, by module, copy and index
abbrev pub latches_in : List Copies → List ℕ
latches_in [] = []
latches_in (t ∷ ts) = t.one ++ t.two ++ t.three ++ latches_in ts

-- the cell in a slot of the twins: those of twin 0 come first, each at its place
abbrev pub cell_at : Twins → ℕ → Held
cell_at twins slot =
    record {
      twin = slot / 16384;
      at = spot_at (slot % 16384);
      cell = word_at (twins.cells (slot / 16384)) (spot_at (slot % 16384));
    }

-- is it another than the cell of the word 0?
abbrev pub is_other_cell : Held → Bool
is_other_cell held = not (held.cell == code_of 0)

-- the cells that the twins store, but for those of the word 0, by rising twin and place
unfoldable pub cells_in : Twins → List Held
cells_in twins = filter is_other_cell (map (cell_at twins) (range_with_len 0 32768))

-- the word at the address of this number
abbrev pub placed_at : Memory → ℕ → Placed
placed_at memory number = record { at = spot_at number; word = word_at memory (spot_at number) }

-- is it another than 0?
abbrev pub is_other_word : Placed → Bool
is_other_word placed = not (placed.word == 0)

-- the words of a memory other than 0, by rising address
unfoldable pub placed_in : Memory → List Placed
placed_in memory = filter is_other_word (map (placed_at memory) (range_with_len 0 32768))

-- the snapshot of a state of a machine with these simplex pairs
abbrev pub snapshot_of : ℕ → Voted → Snapshot
snapshot_of banks v =
    record {
      steps = v.steps;
      latches = latches_in v.copies;
      differed = concat v.counts;
      selected = v.twins.selected;
      cells = cells_in v.twins;
      words = placed_in v.intended;
      log = v.log;
      repairs = v.repairs;
      banks = banks;
    }
