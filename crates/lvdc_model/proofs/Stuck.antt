-- A public lemma file: a cell in which nothing is stuck shows itself.
use Rattle.std.proofs.Common.{◌≡◌, ℕ, bit_xor, ap, ◌∙◌}
use Rattle.std.specs.Int.Bits.{and_zero_r, xor_zero_r}
use Rattle.lvdc_word.specs.Cell.{with_stuck}

-- stuck bits of an empty mask change nothing
pub nothing-stuck : (cell : ℕ) → with_stuck cell 0 0 ≡ cell
unfolding with_stuck
nothing-stuck cell = ap (bit_xor cell) (and_zero_r (bit_xor cell 0)) ∙ xor_zero_r cell
