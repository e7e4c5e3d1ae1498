-- A value for each of 32,768 places, in 128 sectors of 256, of which those take room in which something was put.
use Rattle.std.specs.Prelude.{◌≡◌, ◌≢◌, ℕ, ◌+◌, ◌*◌, ◌/◌, ◌%◌, ◌<◌, ◌≤◌, Bool, ◌==◌, not, List, length, map, count_by, slice_index, slice_index_or}
use Rattle.std.specs.List.{range_with_len}

-- the value that stood at all places in the beginning, and the values of all places
pub record Spread (X : Type 0) : Type 0 where
  pub blank : X
  pub items : List X

-- where the value of a place stands, by the page of each sector
abbrev pub stands_at : List ℕ → ℕ → ℕ
stands_at pages place = slice_index pages (place / 256) * 256 + place % 256

-- the values of all places
abbrev pub values_in : {X : Type 0} → X → List ℕ → List X → List X
values_in blank pages items = map (λ place. slice_index_or items (stands_at pages place) blank) (range_with_len 0 32768)

-- whether a page is a sector's own
abbrev pub is_own : ℕ → Bool
is_own page = not (page == 0)

-- page 0 has the blank value at each place; each other page is that of one sector, and all of them stand in a row
pub record IsPaged {X : Type 0} (blank : X) (pages : List ℕ) (items : List X) : Type 0 where
  pub sectors : length pages ≡ 128
  pub size : length items ≡ 256 + 256 * count_by is_own pages
  pub within : (sector : ℕ) → sector < 128 → slice_index pages sector ≤ count_by is_own pages
  pub first : (loc : ℕ) (d : X) → loc < 256 → slice_index_or items loc d ≡ blank
  pub apart : (one other : ℕ) → one < 128 → other < 128 → slice_index pages one ≢ 0
      → slice_index pages one ≡ slice_index pages other → one ≡ other
