-- How many latches each of the seven modules has.
use Rattle.std.specs.Prelude.{ℕ, [], ◌∷◌, slice_index_or, ◌-◌}

-- how many latches the modules have, in the order of their numbers from 1
abbrev pub latches_of : ℕ → ℕ
latches_of number = slice_index_or (2 ∷ 2 ∷ 1 ∷ 1 ∷ 2 ∷ 5 ∷ 2 ∷ []) (number - 1) 0
