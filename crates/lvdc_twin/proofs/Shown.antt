-- What a twin shows where nothing is stuck or dead.
use Rattle.std.proofs.Common.{◌≡◌, ℕ, false, bit_xor, ap, ◌∙◌}
use Rattle.std.specs.Int.Bits.{and_zero_r, xor_zero_r}
use Rattle.lvdc_word.specs.Cell.{code_of, with_stuck}
use Rattle.lvdc_map.specs.Address.{Spot}
use Rattle.lvdc_twin.specs.Store.{Store, IsBare, nothing, is_dead, stuck_in, stored_in, shown_in}

-- a cell in which nothing is stuck
nothing-stuck : (cell : ℕ) → with_stuck cell 0 0 ≡ cell
unfolding with_stuck
nothing-stuck cell = ap (bit_xor cell) (and_zero_r (bit_xor cell 0)) ∙ xor_zero_r cell

-- a twin of a bare memory shows what it stores
pub shown-bare : (t : Store) (twin : ℕ) (place : Spot) → IsBare t → shown_in t twin place ≡ stored_in t twin place
shown-bare t twin place bare = rw (bare.dead twin place.pair, bare.stuck twin place) (nothing-stuck (stored_in t twin place))

-- a twin that isn't dead shows the cell of the word 0 where it stores that and nothing is stuck
pub shown-zero : (t : Store) (twin : ℕ) (place : Spot) → is_dead t twin place.pair ≡ false → stuck_in t twin place ≡ nothing
    → stored_in t twin place ≡ code_of 0 → shown_in t twin place ≡ code_of 0
shown-zero t twin place alive free zero_cell = rw (alive, free) (nothing-stuck (stored_in t twin place) ∙ zero_cell)
