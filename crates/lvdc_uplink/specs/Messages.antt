-- The messages of an uplink, by their tokens.
use Rattle.std.specs.Prelude.{ℕ, ◌-◌, ◌≤◌, ◌<◌, nat_lt, nat_le, ◌&&◌, List, [], ◌∷◌, take, length, slice_index_or, codes, if◌then◌else◌, Option, None, Some, option_map, option_and_then}
use Rattle.std.specs.Str.{bytes_eq}
use Rattle.lvdc_map.specs.Address.{Spot}
use Rattle.lvdc_text.specs.Lines.{token_texts_of, is_long}
use Rattle.lvdc_text.specs.Numbers.{number_of, below, word_in}
use Rattle.lvdc_lines.specs.Fields.{from, place_in}
use Rattle.lvdc_uplink.specs.Frames.{Frame}
use Rattle.lvdc_uplink.specs.declared.message.Message.{Message}
use Rattle.lvdc_uplink.specs.declared.message.Message.TheVariants as messages

-- ---- fields

-- a decimal number of one to six digits, from 1 on and below the limit
abbrev pub decimal_in : ℕ → List ℕ → Option ℕ
decimal_in limit text = from 1 (below limit (number_of 10 6 text))

-- an id: 1 to 999,999
unfoldable pub id_in : List ℕ → Option ℕ
id_in text = decimal_in 1000000 text

-- the number of a frame, or how many there are: 1 to 64
unfoldable pub count_in : List ℕ → Option ℕ
count_in text = decimal_in 65 text

-- the words of these tokens, where each is one
abbrev pub and_words : Option ℕ → Option (List ℕ) → Option (List ℕ)
and_words (Some word) (Some words) = Some (word ∷ words)
and_words _ _ = None

-- the words of these texts, where each is one
abbrev pub words_in : List (List ℕ) → Option (List ℕ)
words_in [] = Some []
words_in (text ∷ texts) = and_words (word_in text) (words_in texts)

-- the words of a frame: one to eight
abbrev pub content_in : List (List ℕ) → Option (List ℕ)
content_in texts = if nat_lt 0 (length texts) && nat_le (length texts) 8 then words_in texts else None

-- ---- forms

-- OPEN, where each field has its form
abbrev pub open_of : Option ℕ → Option ℕ → Option Message
open_of (Some id) (Some count) = Some (messages.Open id count)
open_of _ _ = None

-- OPEN id n
abbrev pub open_in : List (List ℕ) → Option Message
open_in (id ∷ count ∷ []) = open_of (id_in id) (count_in count)
open_in _ = None

-- these words for this place and those after it
abbrev pub frame_at : Spot → List ℕ → Frame
frame_at at words = record { at = at; words = words }

-- the frame of these tokens for a place, of which the last is the check word, and that word
abbrev pub checked_of : Spot → Option (List ℕ) → Option ℕ → Option (Frame × ℕ)
checked_of at (Some words) (Some check) = Some (frame_at at words, check)
checked_of at _ _ = None

-- a frame at an address and its check word, by the texts behind the address
abbrev pub checked_in : Spot → List (List ℕ) → Option (Frame × ℕ)
checked_in at texts =
    checked_of at (content_in (take (length texts - 1) texts)) (word_in (slice_index_or texts (length texts - 1) []))

-- FRAME, where each field has its form
abbrev pub frame_of : Option ℕ → Option ℕ → Option (Frame × ℕ) → Option Message
frame_of (Some id) (Some number) (Some checked) = Some (messages.Frame id number checked.0 checked.1)
frame_of _ _ _ = None

-- FRAME id i p ss lll w .. c
abbrev pub frame_in : List (List ℕ) → Option Message
frame_in (id ∷ number ∷ pair ∷ sector ∷ loc ∷ rest) =
    frame_of (id_in id) (count_in number) (option_and_then (λ at. checked_in at rest) (place_in pair sector loc))
frame_in _ = None

-- COMMIT, where each field has its form
abbrev pub commit_of : Option ℕ → Option ℕ → Option Message
commit_of (Some id) (Some check) = Some (messages.Commit id check)
commit_of _ _ = None

-- COMMIT id c
abbrev pub commit_in : List (List ℕ) → Option Message
commit_in (id ∷ check ∷ []) = commit_of (id_in id) (word_in check)
commit_in _ = None

-- ABANDON id
abbrev pub abandon_in : List (List ℕ) → Option Message
abandon_in (id ∷ []) = option_map messages.Abandon (id_in id)
abandon_in _ = None

-- ---- lines

-- the message of these tokens, where they are one
abbrev pub message_in : List (List ℕ) → Option Message
message_in [] = None
message_in (word ∷ fields) =
    if bytes_eq word (codes "OPEN") then open_in fields
    else (if bytes_eq word (codes "FRAME") then frame_in fields
    else (if bytes_eq word (codes "COMMIT") then commit_in fields
    else (if bytes_eq word (codes "ABANDON") then abandon_in fields else None)))

-- the message that a line is, where it is one
abbrev pub message_of : List ℕ → Option Message
message_of text = if is_long text then None else message_in (token_texts_of text)

-- ---- ranges

-- all numbers of a message are in their ranges
abbrev pub IsMessage : Message → Type 0
IsMessage (messages.Open id count) = (1 ≤ id) × (id < 1000000) × (1 ≤ count) × (count ≤ 64)
IsMessage (messages.Frame id number frame check) = (1 ≤ id) × (id < 1000000) × (1 ≤ number) × (number ≤ 64)
IsMessage (messages.Commit id check) = (1 ≤ id) × (id < 1000000)
IsMessage (messages.Abandon id) = (1 ≤ id) × (id < 1000000)
