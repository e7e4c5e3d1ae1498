-- What is intended in memory.
use Rattle.std.specs.Prelude.{◌≡◌, ◌≢◌, ℕ, ◌<◌, true, false, nat_lt, if◌then◌else◌, List, All, slice_index}
use Rattle.lvdc_map.specs.Address.{Spot, IsAddress, number_of}
use Rattle.lvdc_map.specs.Banks.{is_there}
use Rattle.lvdc_map.specs.Memory.{word_at, memory_of, are_rising, AllThere}
use Rattle.lvdc_map.specs.declared.placed.Placed.{Placed}

-- which pairs are simplex, and the words of all addresses, in the order of their numbers
pub record Intended : Type 0 where
  pub banks : ℕ
  pub words : List ℕ

-- the word intended at an address
abbrev pub intended_at : Intended → Spot → ℕ
intended_at i at = slice_index i.words (number_of at)

-- the word 0 is intended where the bank isn't there
abbrev pub NoneElsewhere : ℕ → List ℕ → Type 0
NoneElsewhere banks words = (at : Spot) → IsAddress at → is_there banks at ≡ false → slice_index words (number_of at) ≡ 0

-- the list holds the intended words other than 0, each once and in order, in banks that are there
pub record ArePlaced (i : Intended) (placed : List Placed) : Type 0 where
  pub rising : are_rising placed ≡ true
  pub addresses : All (λ p. IsAddress p.at) placed
  pub there : AllThere i.banks placed
  pub others : All (λ p. p.word ≢ 0) placed
  pub words : (at : Spot) → IsAddress at → intended_at i at ≡ word_at (memory_of placed) at

-- what was gathered from the words below a number
pub record GathersWords (banks : ℕ) (table : List ℕ) (n : ℕ) (placed : List Placed) : Type 0 where
  pub rising : are_rising placed ≡ true
  pub addresses : All (λ p. IsAddress p.at) placed
  pub there : AllThere banks placed
  pub others : All (λ p. p.word ≢ 0) placed
  pub below : All (λ p. number_of p.at < n) placed
  pub words : (at : Spot) → IsAddress at → word_at (memory_of placed) at ≡ if nat_lt (number_of at) n then slice_index table (number_of at) else 0
