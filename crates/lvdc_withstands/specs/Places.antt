-- Which places lines have named so far.
use Rattle.std.specs.Prelude.{◌≡◌, ℕ, Bool, true, false, not, ◌==◌, List, All, length, slice_index_or, slice_set, Option, None, Some}
use Rattle.std.specs.List.{list_any}
use Rattle.lvdc_map.specs.Address.{Spot, IsAddress, number_of}
use Rattle.lvdc_withstands.specs.Form.{none_twice}

-- one place more is marked, and it is told whether it wasn't yet
abbrev pub Marks : Option Spot → List Bool → List Bool → Bool → Type 0
Marks None old new first = (new ≡ old) × (first ≡ true)
Marks (Some at) old new first = (new ≡ slice_set old (number_of at) true) × (first ≡ not (slice_index_or old (number_of at) false)) × IsAddress at

-- these places are marked by their numbers, and no others; each is named once
pub record AreMarked (places : List Spot) (named : List Bool) : Type 0 where
  pub size : length named ≡ 32768
  pub marks : (k : ℕ) → slice_index_or named k false ≡ list_any (λ at. number_of at == k) places
  pub addresses : All IsAddress places
  pub once : none_twice places ≡ true
