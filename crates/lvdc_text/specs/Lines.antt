-- How bytes fall into lines, and lines into tokens.
use Rattle.std.specs.Prelude.{ℕ, ◌+◌, ◌≤◌, nat_lt, length, map, drop, slice_range, Bool, true, ◌||◌, ◌==◌, not, List, [], ◌∷◌, if◌then◌else◌}
use Rattle.std.specs.List.{slice_split, filter, list_all}
use Rattle.std.specs.Str.Lines.{strip_carriage_return, lines_of_parts}
use Rattle.lvdc_text.specs.declared.cutting.Line.{Line}
use Rattle.lvdc_text.specs.declared.cutting.Token.{Token}
use Rattle.lvdc_text.specs.declared.comment.TheConstants.{LONGEST_LINE}

-- the line with this number, from this place on, of this length
abbrev pub numbered_part : ℕ → ℕ → ℕ → Line
numbered_part number start count = record { number = number; start = start; end = start + count }

-- LF, which ends a line
abbrev pub is_line_feed : ℕ → Bool
is_line_feed b = b == 10

-- The lines in the pieces between line feeds, where the first has this number and begins here. A piece before a line
-- feed loses a CR at its end; the last piece keeps it, and is a line only where it isn't empty.
unfoldable pub lines_from : ℕ → ℕ → List (List ℕ) → List Line
lines_from number start [] = []
lines_from number start (piece ∷ []) = if length piece == 0 then [] else numbered_part number start (length piece) ∷ []
lines_from number start (piece ∷ next ∷ pieces) =
    numbered_part number start (length (strip_carriage_return piece)) ∷ lines_from (number + 1) (start + length piece + 1) (next ∷ pieces)

-- the lines of the bytes, from 1
abbrev pub lines_of : List ℕ → List Line
lines_of bytes = lines_from 1 0 (slice_split is_line_feed bytes)

-- the texts of the lines, as std's `lines` gives them for a `str`
abbrev pub texts_of : List ℕ → List (List ℕ)
texts_of bytes = lines_of_parts (slice_split is_line_feed bytes)

-- space and tab
abbrev pub is_blank : ℕ → Bool
is_blank b = b == 32 || b == 9

-- the token from this place on, of this length
abbrev pub token_at : ℕ → ℕ → Token
token_at start count = record { start = start; end = start + count }

-- the tokens in the pieces between blanks, where the pieces begin here: those that aren't empty
unfoldable pub tokens_from : ℕ → List (List ℕ) → List Token
tokens_from start [] = []
tokens_from start (piece ∷ pieces) =
    if length piece == 0 then tokens_from (start + 1) pieces
    else token_at start (length piece) ∷ tokens_from (start + length piece + 1) pieces

-- the tokens of the text from a place on
abbrev pub tokens_left : ℕ → List ℕ → List Token
tokens_left start text = tokens_from start (slice_split is_blank (drop start text))

-- the tokens of the text
abbrev pub tokens_of : List ℕ → List Token
tokens_of text = tokens_from 0 (slice_split is_blank text)

-- the piece isn't empty
abbrev pub has_bytes : List ℕ → Bool
has_bytes piece = not (length piece == 0)

-- the texts of the tokens: the pieces between blanks that aren't empty
abbrev pub token_texts_of : List ℕ → List (List ℕ)
token_texts_of text = filter has_bytes (slice_split is_blank text)

-- the line lies within the bytes, and its number is no more than their count
pub record IsWithin (bytes : List ℕ) (line : Line) : Type 0 where
  pub in_order : line.start ≤ line.end
  pub in_range : line.end ≤ length bytes
  pub counted : line.number ≤ length bytes

-- the bytes of the line
abbrev pub part_of : List ℕ → Line → List ℕ
part_of bytes line = slice_range bytes line.start line.end

-- the token lies within the text
pub record LiesIn (text : List ℕ) (token : Token) : Type 0 where
  pub in_order : token.start ≤ token.end
  pub in_range : token.end ≤ length text

-- the bytes of the token
abbrev pub token_text : List ℕ → Token → List ℕ
token_text text token = slice_range text token.start token.end

-- the bytes of a line, and its number
pub record NumberedLine : Type 0 where
  pub number : ℕ
  pub text : List ℕ

-- a line of the bytes
abbrev pub numbered_line : List ℕ → Line → NumberedLine
numbered_line bytes line = record { number = line.number; text = part_of bytes line }

-- these lines of the bytes
abbrev pub numbered : List ℕ → List Line → List NumberedLine
numbered bytes lines = map (numbered_line bytes) lines

-- too long for a line that people write
abbrev pub is_long : List ℕ → Bool
is_long text = nat_lt LONGEST_LINE (length text)

-- a blank line, or one that begins with `*`
abbrev pub is_comment : List ℕ → Bool
is_comment [] = true
is_comment (b ∷ bs) = b == 42 || list_all is_blank (b ∷ bs)
