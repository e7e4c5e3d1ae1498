-- Worked latches and counts of the logic.
use Rattle.std.proofs.Common.{◌≡◌, ℕ, List, [], ◌∷◌, refl}
use Rattle.lvdc_model.specs.Voted.{count_of}
use Rattle.lvdc_model.specs.Listing.{copies_of, counts_of}
use Rattle.lvdc_logic.specs.Logic.{latch_of}

-- each latch and each count holds its own place in its list
abbrev places : List ℕ
places =
    0 ∷ 1 ∷ 2 ∷ 3 ∷ 4 ∷ 5 ∷ 6 ∷ 7 ∷ 8 ∷ 9 ∷ 10 ∷ 11 ∷ 12 ∷ 13 ∷ 14 ∷ 15 ∷ 16 ∷ 17 ∷ 18 ∷ 19 ∷ 20 ∷ 21 ∷ 22 ∷ 23 ∷ 24 ∷ 25 ∷ 26 ∷ 27 ∷ 28 ∷ 29 ∷ 30
    ∷ 31 ∷ 32 ∷ 33 ∷ 34 ∷ 35 ∷ 36 ∷ 37 ∷ 38 ∷ 39 ∷ 40 ∷ 41 ∷ 42 ∷ 43 ∷ 44 ∷ []

-- TIMER has two latches, DECODER one, MULTIPLIER five; EXCHANGE is the last
latches_by_module_copy_and_index :
    (latch_of (copies_of places) 1 1 0 ≡ 0) × (latch_of (copies_of places) 1 3 1 ≡ 5) × (latch_of (copies_of places) 3 2 0 ≡ 13)
    × (latch_of (copies_of places) 6 3 4 ≡ 38) × (latch_of (copies_of places) 7 3 1 ≡ 44)
latches_by_module_copy_and_index = (refl, refl, refl, refl, refl)

counts_by_module_and_copy :
    (count_of (counts_of places) 1 1 ≡ 0) × (count_of (counts_of places) 2 3 ≡ 5) × (count_of (counts_of places) 7 3 ≡ 20)
counts_by_module_and_copy = (refl, refl, refl)
