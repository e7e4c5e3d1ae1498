-- What bytes mean as frames: requests, one after another. A frame is a line that ends with LF and then the bytes of an input.
use Rattle.std.specs.Prelude.{ℕ, ◌+◌, zero, suc, nat_lt, nat_le, length, take, drop, Bool, true, false, ◌&&◌, ◌==◌, List, [], ◌∷◌, ◌++◌, codes, if◌then◌else◌}
use Rattle.std.specs.declared.option.Option.{Option}
use Rattle.std.specs.declared.option.Option.TheVariants.{None, Some}
use Rattle.std.specs.List.{slice_split, list_all}
use Rattle.std.specs.Str.{bytes_eq}
use Rattle.lvdc_text.specs.Lines.{is_line_feed}
use Rattle.lvdc_text.specs.Numbers.{plain_number_of, below}

-- ---- the line of a frame: REQUEST, how many bytes of input follow, and one to eight words, with one space between each two

-- how many bytes of input follow, and the words
pub record FrameLine : Type 0 where
  pub count : ℕ
  pub words : List (List ℕ)

-- the byte between two parts of a line
abbrev pub is_space : ℕ → Bool
is_space b = b == 32

-- a byte of a word: no blank, no control character, and none of another alphabet
abbrev pub is_graphic : ℕ → Bool
is_graphic b = nat_lt 32 b && nat_lt b 127

-- a word has a byte, and each byte of it can be seen
abbrev pub is_word : List ℕ → Bool
is_word word = nat_lt 0 (length word) && list_all is_graphic word

-- one to eight words
abbrev pub are_words : List (List ℕ) → Bool
are_words words = nat_lt 0 (length words) && (nat_le (length words) 8 && list_all is_word words)

-- the most bytes of an input
abbrev pub longest_input : ℕ
longest_input = 134217728

-- how many bytes of input the digits name: at most the longest, without a needless zero
abbrev pub input_count : List ℕ → Option ℕ
input_count digits = below (longest_input + 1) (plain_number_of 9 digits)

-- the line with these words, where the count is a number
abbrev pub with_words : List (List ℕ) → Option ℕ → Option FrameLine
with_words words None = None
with_words words (Some count) = Some (record { count = count; words = words })

-- what the parts of a line say, where it is the line of a frame
unfoldable pub frame_line_of_parts : List (List ℕ) → Option FrameLine
frame_line_of_parts (first ∷ digits ∷ words) =
    if bytes_eq first (codes "REQUEST") && are_words words then with_words words (input_count digits) else None
frame_line_of_parts parts = None

-- what a line says, where it is the line of a frame
abbrev pub frame_line_of : List ℕ → Option FrameLine
frame_line_of line = frame_line_of_parts (slice_split is_space line)

-- ---- a frame

-- the words of a request, and its input
pub record Request : Type 0 where
  pub words : List (List ℕ)
  pub input : List ℕ

-- what stands before a place in the bytes, and what stands behind it
pub record Cut : Type 0 where
  pub front : List ℕ
  pub rest : List ℕ

-- the same cut, with one more byte before it
abbrev pub with_byte : ℕ → Option Cut → Option Cut
with_byte b None = None
with_byte b (Some cut) = Some (record { front = b ∷ cut.front; rest = cut.rest })

-- the bytes before the first LF, at most so many, and those behind it
unfoldable pub cut_line : ℕ → List ℕ → Option Cut
cut_line most [] = None
cut_line zero (b ∷ bytes) = if is_line_feed b then Some (record { front = []; rest = bytes }) else None
cut_line (suc most) (b ∷ bytes) = if is_line_feed b then Some (record { front = []; rest = bytes }) else with_byte b (cut_line most bytes)

-- a request, and the bytes that follow its frame
pub record Framed : Type 0 where
  pub request : Request
  pub rest : List ℕ

-- the frame with this line, where its whole input follows
abbrev pub framed_by : Option FrameLine → List ℕ → Option Framed
framed_by None bytes = None
framed_by (Some line) bytes =
    if nat_le line.count (length bytes)
    then Some (record { request = record { words = line.words; input = take line.count bytes }; rest = drop line.count bytes })
    else None

-- the frame with the line before the cut, where the line ends
abbrev pub framed_behind : Option Cut → Option Framed
framed_behind None = None
framed_behind (Some cut) = framed_by (frame_line_of cut.front) cut.rest

-- the most bytes of a line, without its LF
abbrev pub longest_line : ℕ
longest_line = 255

-- the frame that the bytes begin with, where they begin with one
unfoldable pub frame_at : List ℕ → Option Framed
frame_at bytes = framed_behind (cut_line longest_line bytes)

-- ---- frames

-- requests one after another, and whether nothing but these is there: else what follows the last one is no frame
pub record Frames : Type 0 where
  pub requests : List Request
  pub whole : Bool

-- this request, and then those of the frames
abbrev pub with_request : Request → Frames → Frames
with_request request frames = record { requests = request ∷ frames.requests; whole = frames.whole }

-- these requests, and then those of the frames
abbrev pub with_requests : List Request → Frames → Frames
with_requests requests frames = record { requests = requests ++ frames.requests; whole = frames.whole }

-- no request, and whether nothing else is there
abbrev pub no_request : Bool → Frames
no_request whole = record { requests = []; whole = whole }

-- the first frame, and those that the rest behind it means
abbrev pub first_then : Option Framed → (List ℕ → Frames) → Frames
first_then None frames = no_request false
first_then (Some framed) frames = with_request framed.request (frames framed.rest)

-- what bytes mean as frames, where at most so many are looked for
unfoldable pub frames_within : ℕ → List ℕ → Frames
frames_within zero bytes = no_request true
frames_within (suc most) [] = no_request true
frames_within (suc most) (b ∷ bytes) = first_then (frame_at (b ∷ bytes)) (frames_within most)

-- the most frames: no further one is looked for
abbrev pub most_frames : ℕ
most_frames = 4294967295

-- what bytes mean as frames
abbrev pub frames_of : List ℕ → Frames
frames_of bytes = frames_within most_frames bytes
