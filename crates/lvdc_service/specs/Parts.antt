-- The parts of a line between its spaces.
use Rattle.std.specs.Prelude.{ℕ, ◌≤◌, length, slice_range, List}
use Rattle.lvdc_service.specs.declared.parts.Part.{Part}

-- the part lies within the line
pub record LiesIn (line : List ℕ) (part : Part) : Type 0 where
  pub in_order : part.start ≤ part.end
  pub in_range : part.end ≤ length line

-- the bytes of the part
abbrev pub part_of : List ℕ → Part → List ℕ
part_of line part = slice_range line part.start part.end
