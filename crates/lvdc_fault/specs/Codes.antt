-- Good cells of words.
use Rattle.std.specs.Prelude.{◌≡◌, ℕ, ◌<◌, List, length, slice_index}
use Rattle.lvdc_word.specs.Cell.{code_of, word_in}

-- a cell for each address, each the code of its word
pub record AreCodes (cells : List ℕ) : Type 0 where
  pub size : length cells ≡ 32768
  pub codes : (number : ℕ) → number < 32768 → code_of (word_in (slice_index cells number)) ≡ slice_index cells number
