-- Memories: what word each address holds.
use Rattle.std.specs.Prelude.{◌≡◌, ℕ, Bool, true, ◌&&◌, nat_lt, if◌then◌else◌, List, [], ◌∷◌, All, length, fold, slice_index}
use Rattle.lvdc_map.specs.Address.{Spot, IsAddress, is_same, number_of}
use Rattle.lvdc_map.specs.Banks.{is_there}
use Rattle.lvdc_map.specs.declared.placed.Placed.{Placed}

-- a word for each address
abbrev pub Memory : Type 0
Memory = Spot → ℕ

-- every address holds this word
abbrev pub filled_with : ℕ → Memory
filled_with w = λ _. w

-- the word at an address
abbrev pub word_at : Memory → Spot → ℕ
word_at memory at = memory at

-- the memory with this word at this address
abbrev pub stored : Memory → Spot → ℕ → Memory
stored memory at w = λ other. if is_same other at then w else memory other

-- the memory with the words of an image at their places
abbrev pub loaded : List Placed → Memory → Memory
loaded image memory = fold (λ now p. stored now p.at p.word) memory image

-- the memory that an image makes: its words at their places, and 0 elsewhere
abbrev pub memory_of : List Placed → Memory
memory_of image = fold (λ memory p. stored memory p.at p.word) (λ _. 0) image

-- the list holds the memory's word at the number of each address
pub record IsMemory (words : List ℕ) (m : Memory) : Type 0 where
  pub size : length words ≡ 32768
  pub same : (at : Spot) → IsAddress at → slice_index words (number_of at) ≡ word_at m at

-- the addresses rise strictly
abbrev pub are_rising : List Placed → Bool
are_rising [] = true
are_rising (p ∷ []) = true
are_rising (p ∷ q ∷ ps) = nat_lt (number_of p.at) (number_of q.at) && are_rising (q ∷ ps)

-- the bank of each address is there
abbrev pub AllThere : ℕ → List Placed → Type 0
AllThere banks image = All (λ p. is_there banks p.at ≡ true) image
