-- What committed loads make of an image.
use Rattle.std.specs.Prelude.{◌≡◌, ℕ, ◌+◌, ◌<◌, ◌≤◌, nat_lt, List, [], ◌∷◌, ◌++◌, length, slice_index_or, Option, None, Some, if◌then◌else◌}
use Rattle.lvdc_map.specs.Address.{Spot, number_of}
use Rattle.lvdc_map.specs.declared.placed.Placed.{Placed}
use Rattle.lvdc_image.specs.Image.{Contents}
use Rattle.lvdc_uplink.specs.Frames.{Frame, Load}

-- words at a place and at those after it
abbrev pub placed_from : Spot → List ℕ → List Placed
placed_from at [] = []
placed_from at (word ∷ words) = record { at = at; word = word } ∷ placed_from (record at { loc = at.loc + 1 }) words

-- the words of frames at their places, in the order of the frames
abbrev pub placed_in : List (Option Frame) → List Placed
placed_in [] = []
placed_in (None ∷ frames) = placed_in frames
placed_in (Some frame ∷ frames) = placed_from frame.at frame.words ++ placed_in frames

-- one more word among words whose addresses rise: it takes the place of one at its address
abbrev pub with_word : List Placed → Placed → List Placed
with_word [] new = new ∷ []
with_word (old ∷ words) new =
    if nat_lt (number_of old.at) (number_of new.at) then old ∷ with_word words new
    else (if nat_lt (number_of new.at) (number_of old.at) then new ∷ old ∷ words else new ∷ words)

-- the number of the address of the word at an index
abbrev pub number_at : List Placed → ℕ → ℕ
number_at words index = number_of (slice_index_or words index (record { at = record { pair = 0; sector = 0; loc = 0 }; word = 0 })).at

-- the word at this index stands at the address of this number
pub record IsAt (words : List Placed) (number index : ℕ) : Type 0 where
  pub within : index < length words
  pub here : number_at words index ≡ number

-- no word stands at the address of this number, and one would go to this index: those before it have lower addresses, the
-- others higher ones
pub record IsGapFor (words : List Placed) (number index : ℕ) : Type 0 where
  pub within : index ≤ length words
  pub before : (j : ℕ) → j < index → number_at words j < number
  pub after : (j : ℕ) → index ≤ j → j < length words → number < number_at words j

-- more words among them, one after another
abbrev pub with_words : List Placed → List Placed → List Placed
with_words words [] = words
with_words words (new ∷ more) = with_words (with_word words new) more

-- the words of loads at their places, in the order of the loads
abbrev pub placed_by : List Load → List Placed
placed_by [] = []
placed_by (load ∷ loads) = placed_in load.frames ++ placed_by loads

-- the image with the words of a load; its version, its start constant and its simplex pairs stay
abbrev pub patched : Contents → Load → Contents
patched image load = record image { words = with_words image.words (placed_in load.frames) }
