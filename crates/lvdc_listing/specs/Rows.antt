-- The rows of a listing.
use Rattle.std.specs.Prelude.{ℕ, ◌-◌, ◌==◌, List, [], ◌∷◌, ◌++◌, length, replicate, codes, decimal, Option, None, Some, if◌then◌else◌}
use Rattle.lvdc_map.specs.Address.{Spot}
use Rattle.lvdc_map.specs.Memory.{Memory, word_at}
use Rattle.lvdc_text.specs.Numbers.{octal_text}
use Rattle.lvdc_text.specs.Lines.{NumberedLine, is_comment}
use Rattle.lvdc_place.specs.declared.spot.Spot.{Spot as Place}
use Rattle.lvdc_listing.specs.Places.{sector_text, place_text}

-- blanks up to so many places
abbrev pub blanks : ℕ → List ℕ → List ℕ
blanks places text = replicate (places - length text) 32

-- before a line: its number right in 7 places, and a field filled to 20
abbrev pub row_head : ℕ → List ℕ → List ℕ
row_head number field = blanks 7 (decimal number) ++ decimal number ++ codes " " ++ field ++ blanks 20 field

-- the row of a line
abbrev pub row : NumberedLine → List ℕ → List ℕ
row line field = row_head line.number field ++ codes " " ++ line.text

-- the number of the line on which an item stands, and its field
pub record Field : Type 0 where
  pub line : ℕ
  pub text : List ℕ

-- The rows of the lines of a source, up to and with END, where these are the fields of its items. The line of an item has the
-- item's field, and each other line an empty one; after the last item the first line that is no comment is END.
abbrev pub line_rows : List Field → List NumberedLine → List (List ℕ)
line_rows fields [] = []
line_rows [] (line ∷ lines) = if is_comment line.text then row line [] ∷ line_rows [] lines else row line [] ∷ []
line_rows (field ∷ fields) (line ∷ lines) =
    if field.line == line.number then row line field.text ∷ line_rows fields lines else row line [] ∷ line_rows (field ∷ fields) lines

-- the row of a pooled word: where it stands, and the word there
abbrev pub pool_row : Memory → Spot → List ℕ
pool_row memory at = codes "POOL " ++ sector_text at ++ codes " " ++ octal_text 3 at.loc ++ codes " " ++ octal_text 9 (word_at memory at)

-- the row of a name and where it stands, where a line has one
abbrev pub name_rows : List ℕ → Option Place → List (List ℕ)
name_rows [] spot = []
name_rows (c ∷ cs) None = []
name_rows (c ∷ cs) (Some here) = (codes "NAME " ++ (c ∷ cs) ++ codes " " ++ place_text here) ∷ []
