-- The latches of all copies one after another, and the counts.
use Rattle.std.specs.Prelude.{ℕ, zero, suc, ◌+◌, List, [], ◌∷◌, slice_index}
use Rattle.lvdc_vote.specs.Copies.{Copies, settled}

-- so many items of a list, from an index on
abbrev pub items_at : List ℕ → ℕ → ℕ → List ℕ
items_at items from zero = []
items_at items from (suc n) = slice_index items from ∷ items_at items (suc from) n

-- three copies of so many latches each, which stand one after another from an index on; none has latched
abbrev pub three_at : List ℕ → ℕ → ℕ → Copies
three_at latches from n = settled (items_at latches from n) (items_at latches (from + n) n) (items_at latches (from + n + n) n)

-- the copies of modules that have so many latches
abbrev pub copies_from : List ℕ → ℕ → List ℕ → List Copies
copies_from latches from [] = []
copies_from latches from (n ∷ sizes) = three_at latches from n ∷ copies_from latches (from + n + n + n) sizes

-- the copies of the seven modules with these 45 latches, by module, copy and index
abbrev pub copies_of : List ℕ → List Copies
copies_of latches = copies_from latches 0 (2 ∷ 2 ∷ 1 ∷ 1 ∷ 2 ∷ 5 ∷ 2 ∷ [])

-- the counts of so many modules, three each
abbrev pub counts_from : List ℕ → ℕ → ℕ → List (List ℕ)
counts_from counts from zero = []
counts_from counts from (suc n) = items_at counts from 3 ∷ counts_from counts (from + 3) n

-- the counts of the seven modules, by module and copy
abbrev pub counts_of : List ℕ → List (List ℕ)
counts_of counts = counts_from counts 0 7
