-- The saved text of a state: its entries in their order, each on its line.
use Rattle.std.specs.Prelude.{ℕ, zero, suc, ◌+◌, ◌/◌, ◌%◌, ◌==◌, List, [], ◌∷◌, ◌++◌, map, take, drop, slice_index, if◌then◌else◌}
use Rattle.std.specs.List.{range_with_len}
use Rattle.lvdc_vote.specs.Numbers.{latches_of}
use Rattle.lvdc_orders.specs.Orders.{orders_of}
use Rattle.lvdc_snapshot.specs.declared.snapshot.Snapshot.{Snapshot}
use Rattle.lvdc_lines.specs.Noted.{lines_of}
use Rattle.lvdc_save.specs.declared.entry.CopyState.{CopyState}
use Rattle.lvdc_save.specs.declared.entry.Entry.{Entry}
use Rattle.lvdc_save.specs.declared.entry.Entry.TheVariants as says
use Rattle.lvdc_save.specs.declared.saved.Saved.{Saved}
use Rattle.lvdc_save.specs.Lines.{entry_line}

-- the module of a copy, by its index from 0
abbrev pub module_at : ℕ → ℕ
module_at index = index / 3 + 1

-- the number of a copy in its module, by its index from 0
abbrev pub copy_at : ℕ → ℕ
copy_at index = index % 3 + 1

-- where the latches of a copy begin
abbrev pub latches_before : ℕ → ℕ
latches_before zero = 0
latches_before (suc index) = latches_before index + latches_of (module_at index)

-- the copy of this index
abbrev pub copy_state : Snapshot → ℕ → CopyState
copy_state s index =
    record {
      number = module_at index;
      copy = copy_at index;
      count = slice_index s.differed index;
      latches = take (latches_of (module_at index)) (drop (latches_before index) s.latches);
    }

-- the 21 copies, by module and copy
abbrev pub copy_entries : Snapshot → List Entry
copy_entries s = map (λ index. says.Copy (copy_state s index)) (range_with_len 0 21)

-- the simplex pairs, where there are any
abbrev pub simplex_entries : ℕ → List Entry
simplex_entries banks = if banks == 0 then [] else says.Simplex banks ∷ []

-- what a saved text says, in its order
abbrev pub entries_of : Saved → List Entry
entries_of s =
    says.Title ∷ says.Steps s.snapshot.steps ∷ says.Count s.count ∷ simplex_entries s.snapshot.banks
    ++ copy_entries s.snapshot ++ says.Select s.snapshot.selected ∷ map says.Cell s.snapshot.cells
    ++ map says.Word s.snapshot.words ++ map says.Exchange s.snapshot.log ++ map says.Repair s.snapshot.repairs
    ++ map says.State s.states ++ map says.Unplug s.unplugs ++ map says.Fault s.script ++ map says.Order (orders_of s.orders)
    ++ says.End ∷ []

-- the saved text
unfoldable pub saved_text : Saved → List ℕ
saved_text s = lines_of entry_line (entries_of s)
