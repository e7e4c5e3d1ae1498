-- What a reader holds: bytes that were taken from a source and are still to be used.
use Rattle.std.specs.Prelude.{◌≡◌, ℕ, ◌<◌, List, [], ◌∷◌, ◌++◌, length}
use Rattle.std.specs.declared.option.Option.{Option}
use Rattle.std.specs.declared.option.Option.TheVariants.{None, Some}
use Rattle.std.specs.Io.KnownBytes.{Consumes}
use Rattle.lvdc_service.specs.declared.reader.Line.{Line}
use Rattle.lvdc_service.specs.declared.reader.Line.TheVariants.{Ended, Nothing, Open}
use Rattle.lvdc_service.specs.Frames.{cut_line, longest_line}

-- These bytes were used: what was held, and behind it what was taken from the source meanwhile, are these bytes, and behind them
-- what is held now.
pub record Uses (held : List ℕ) (left : Option (List ℕ)) (held_now : List ℕ) (left_now : Option (List ℕ)) (used : List ℕ) : Type 0 where
  pub taken : List ℕ
  pub consumed : Consumes left left_now taken
  pub kept : held ++ taken ≡ used ++ held_now

-- what the source has left, where it tells that; else nothing is known to follow
abbrev pub told : Option (List ℕ) → List ℕ
told None = []
told (Some bytes) = bytes

-- what is still to be used: the bytes that are held, and what the source has left
abbrev pub to_come : List ℕ → Option (List ℕ) → List ℕ
to_come held left = held ++ told left

-- some bytes were used, fewer than so many, and nothing is to come
pub record IsShort (held : List ℕ) (left : Option (List ℕ)) (held_now : List ℕ) (left_now : Option (List ℕ)) (count : ℕ) : Type 0 where
  pub used : List ℕ
  pub uses : Uses held left held_now left_now used
  pub fewer : length used < count
  pub nothing : to_come held_now left_now ≡ []

-- some bytes were used, at least one, and neither they nor what is to come after them have an LF where a line could end
pub record IsOpen (held : List ℕ) (left : Option (List ℕ)) (held_now : List ℕ) (left_now : Option (List ℕ)) : Type 0 where
  pub used : List ℕ
  pub uses : Uses held left held_now left_now used
  pub some : 0 < length used
  pub open_line : cut_line longest_line (used ++ to_come held_now left_now) ≡ None

-- The line that was used: with its LF, which is the first one whatever follows; or nothing was there to use; or no line ends.
abbrev pub IsLine : Line → List ℕ → Option (List ℕ) → List ℕ → Option (List ℕ) → Type 0
IsLine (Ended line) held left held_now left_now =
    Uses held left held_now left_now (line.items ++ 10 ∷ [])
    × ((more : List ℕ) → cut_line longest_line (line.items ++ 10 ∷ more) ≡ Some (record { front = line.items; rest = more }))
IsLine Nothing held left held_now left_now = Uses held left held_now left_now [] × (to_come held_now left_now ≡ [])
IsLine Open held left held_now left_now = IsOpen held left held_now left_now
