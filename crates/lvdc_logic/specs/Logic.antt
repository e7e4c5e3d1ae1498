-- The logic as it is seen: three copies of each of seven modules, and how often each copy differed from the vote.
use Rattle.std.specs.Prelude.{ℕ, ◌-◌, ◌≤◌, Bool, List, [], slice_index, slice_index_or}
use Rattle.lvdc_vote.specs.Copies.{Copies, settled, copy_of, vote_of, differs_of}
use Rattle.lvdc_model.specs.Voted.{count_of}

-- the copies of the seven modules in order, and of each copy how often it differed from the vote
pub record LogicState : Type 0 where
  pub copies : List Copies
  pub counts : List (List ℕ)

-- the copies of a module, by its number from 1
abbrev pub copies_at : List Copies → ℕ → Copies
copies_at copies number = slice_index_or copies (number - 1) (settled [] [] [])

-- the word of a latch of a copy, by the number of the module and of the copy, both from 1, and the index of the latch
abbrev pub latch_of : List Copies → ℕ → ℕ → ℕ → ℕ
latch_of copies number copy index = slice_index (copy_of (copies_at copies number) (copy - 1)) index

-- the vote over a latch of a module
abbrev pub vote_at : List Copies → ℕ → ℕ → ℕ
vote_at copies number index = slice_index (vote_of (copies_at copies number)) index

-- a copy of a module differs from the vote
abbrev pub is_outvoted : List Copies → ℕ → ℕ → Bool
is_outvoted copies number copy = differs_of (copies_at copies number) (copy - 1)

-- no copy differed more often than this
abbrev pub DifferedAtMost : ℕ → List (List ℕ) → Type 0
DifferedAtMost most counts = (number copy : ℕ) → count_of counts number copy ≤ most
