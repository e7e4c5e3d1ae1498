-- What a listing shows of an image, read back from its octal fields by their columns.
use Rattle.std.specs.Prelude.{◌≡◌, ℕ, ◌==◌, ◌&&◌, ◌^◌, ◌<◌, Bool, false, List, [], ◌∷◌, ◌++◌, take, drop, slice_index_or, Option, None, Some, is_none, unwrap_or, All, if◌then◌else◌}
use Rattle.std.specs.List.{slice_split, list_any}
use Rattle.lvdc_word.specs.Word.{joined}
use Rattle.lvdc_map.specs.Address.{Spot, is_same}
use Rattle.lvdc_text.specs.Lines.{NumberedLine, is_line_feed}
use Rattle.lvdc_text.specs.Numbers.{value_of}
use Rattle.lvdc_asm.specs.Assembly.{Assembled}
use Rattle.lvdc_laws_assembly.specs.Images.{word_at, half_of}

-- ---- rows

-- what is shown of an address: a syllable, or where none is named its word
pub record Shown : Type 0 where
  pub at : Spot
  pub syl : Option ℕ
  pub value : ℕ

-- the byte of a blank, which stands where nothing is shown
abbrev pub blank : ℕ
blank = 32

-- that of the dash in the field of a word
abbrev pub dash : ℕ
dash = 45

-- that of the letter with which the row of a pooled word begins
abbrev pub letter_p : ℕ
letter_p = 80

-- that of the letter with which the row of a name begins
abbrev pub letter_n : ℕ
letter_n = 78

-- the byte in a column; there are blanks behind the last one
abbrev pub byte_at : List ℕ → ℕ → ℕ
byte_at text column = slice_index_or text column blank

-- the octal number in so many columns from this one on
abbrev pub octal_at : List ℕ → ℕ → ℕ → ℕ
octal_at text column width = value_of 8 (take width (drop column text))

-- the address whose pair, sector and location begin in these columns
abbrev pub spot_in : List ℕ → ℕ → ℕ → ℕ → Spot
spot_in text pair sector loc = record { pair = octal_at text pair 1; sector = octal_at text sector 2; loc = octal_at text loc 3 }

-- what the field of a line shows: a word of nine digits behind a dash, a syllable of five, or nothing
abbrev pub field_shown : List ℕ → List Shown
field_shown field =
    if byte_at field 11 == blank then []
    else (if byte_at field 5 == dash then record { at = spot_in field 0 2 7; syl = None; value = octal_at field 11 9 } ∷ []
    else record { at = spot_in field 0 2 7; syl = Some (octal_at field 5 1); value = octal_at field 11 5 } ∷ [])

-- what a row shows: of a pooled word the word, of a line its field
abbrev pub row_shown : List ℕ → List Shown
row_shown row =
    if byte_at row 0 == letter_p then record { at = spot_in row 5 7 10; syl = None; value = octal_at row 14 9 } ∷ []
    else field_shown (take 20 (drop 8 row))

-- what rows show, up to the first name
abbrev pub rows_shown : List (List ℕ) → List Shown
rows_shown [] = []
rows_shown (row ∷ rows) = if byte_at row 0 == letter_n then [] else row_shown row ++ rows_shown rows

-- what a text shows, whose rows stand between line feeds
abbrev pub text_shown : List ℕ → List Shown
text_shown text = rows_shown (slice_split is_line_feed text)

-- ---- the image

-- whether what is shown covers the slot of an address
abbrev pub covers : Shown → Spot → ℕ → Bool
covers shown at syl = is_same shown.at at && unwrap_or shown.syl syl == syl

-- what it says of the slot
abbrev pub part_shown : Option ℕ → ℕ → ℕ → ℕ
part_shown None syl value = half_of syl value
part_shown (Some half) syl value = value

-- what is shown of a slot first, where anything is
abbrev pub slot_shown : List Shown → Spot → ℕ → Option ℕ
slot_shown [] at syl = None
slot_shown (one ∷ more) at syl = if covers one at syl then Some (part_shown one.syl syl one.value) else slot_shown more at syl

-- the word of two slots, of which one or none is shown, and then is 0
abbrev pub word_of_slots : Option ℕ → Option ℕ → Option ℕ
word_of_slots one zeroth = if is_none one && is_none zeroth then None else Some (joined (unwrap_or one 0) (unwrap_or zeroth 0))

-- the word that is shown of an address, where any is
abbrev pub word_shown : List Shown → Spot → Option ℕ
word_shown shown at = word_of_slots (slot_shown shown at 1) (slot_shown shown at 0)

-- ---- the whole

-- the lines are such as bytes have, the numbers of seven digits at most, and what the image places are words
pub record IsPrintable (assembled : Assembled) (lines : List NumberedLine) : Type 0 where
  pub texts : All (λ line. list_any is_line_feed line.text ≡ false) lines
  pub numbers : All (λ line. line.number < 10 ^ 7) lines
  pub words : All (λ placed. placed.word < 2 ^ 26) assembled.words

-- a text shows of each address the word that the image has there, and of every other one nothing
abbrev pub ShowsImage : Assembled → List ℕ → Type 0
ShowsImage assembled text = (at : Spot) → word_shown (text_shown text) at ≡ word_at assembled.words at
