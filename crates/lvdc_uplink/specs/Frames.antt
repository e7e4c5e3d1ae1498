-- Frames, the load that they make up, and their check words.
use Rattle.std.specs.Prelude.{◌≡◌, ℕ, ◌+◌, ◌-◌, ◌%◌, ◌^◌, ◌<◌, Bool, true, ◌&&◌, nat_le, List, [], ◌∷◌, length, sum, position, slice_index_or, slice_set, replicate, Option, None, Some, is_none, option_map}
use Rattle.std.specs.Str.{bytes_eq}
use Rattle.lvdc_map.specs.Address.{Spot, is_same, number_of}

-- words for a place and those after it
pub record Frame : Type 0 where
  pub at : Spot
  pub words : List ℕ

-- a load: its id, and each of its frames, where that one is staged
pub record Load : Type 0 where
  pub id : ℕ
  pub frames : List (Option Frame)

-- a load of so many frames, none of them staged
abbrev pub bare_load : ℕ → ℕ → Load
bare_load id count = record { id = id; frames = replicate count None }

-- the same words for the same places
abbrev pub is_same_frame : Frame → Frame → Bool
is_same_frame a b = is_same a.at b.at && bytes_eq a.words b.words

-- the words stay in their sector, whose last location is 377 octal
abbrev pub stays : Frame → Bool
stays frame = nat_le (frame.at.loc + length frame.words) 256

-- a frame that an image can take: its place is in one of the pairs, and its words stay in their sector
pub record Fits (frame : Frame) : Type 0 where
  pub pair : frame.at.pair < 4
  pub sector : frame.at.sector < 16
  pub stays : stays frame ≡ true

-- a frame that is staged fits an image
abbrev pub FitsIfStaged : Option Frame → Type 0
FitsIfStaged None = Unit {0}
FitsIfStaged (Some frame) = Fits frame

-- the frame of this number, counted from 1, where it is staged
abbrev pub staged : Load → ℕ → Option Frame
staged load number = slice_index_or load.frames (number - 1) None

-- the load with this frame staged
abbrev pub with_frame : Load → ℕ → Frame → Load
with_frame load number frame = record load { frames = slice_set load.frames (number - 1) (Some frame) }

-- the least number of a frame that isn't staged
abbrev pub missing_in : Load → Option ℕ
missing_in load = option_map (λ index. index + 1) (position is_none load.frames)

-- the check word of a frame: the load's id, the frame's number, its place and its words, added up
abbrev pub frame_check : ℕ → ℕ → Frame → ℕ
frame_check id number frame = (id + number + number_of frame.at + sum frame.words) % 2 ^ 26

-- the check words of the staged frames, added up, where the first frame has this number
abbrev pub checks_from : ℕ → ℕ → List (Option Frame) → ℕ
checks_from id number [] = 0
checks_from id number (None ∷ frames) = checks_from id (number + 1) frames
checks_from id number (Some frame ∷ frames) = frame_check id number frame + checks_from id (number + 1) frames

-- the check word of a load
abbrev pub load_check : Load → ℕ
load_check load = checks_from load.id 1 load.frames % 2 ^ 26
