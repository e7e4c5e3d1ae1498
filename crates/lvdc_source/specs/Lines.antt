-- The parts of a line: label, operation and operand, each ended by a blank; what follows is comment.
use Rattle.std.specs.Prelude.{ℕ, Bool, true, false, not, List, [], ◌∷◌, slice_index_or}
use Rattle.lvdc_text.specs.Lines.{is_blank, token_texts_of}

-- the parts of a line; one that is missing is empty
pub record Parts : Type 0 where
  pub label : List ℕ
  pub operation : List ℕ
  pub operand : List ℕ

-- a line that doesn't begin with a blank begins with a label
abbrev pub is_labelled : List ℕ → Bool
is_labelled [] = false
is_labelled (b ∷ bs) = not (is_blank b)

-- the word at this index, or the empty text
abbrev pub word_at : List (List ℕ) → ℕ → List ℕ
word_at words index = slice_index_or words index []

-- the first words are the parts
abbrev pub parts_in : Bool → List (List ℕ) → Parts
parts_in true words = record { label = word_at words 0; operation = word_at words 1; operand = word_at words 2 }
parts_in false words = record { label = []; operation = word_at words 0; operand = word_at words 1 }

-- the parts of a line
unfoldable pub parts_of : List ℕ → Parts
parts_of text = parts_in (is_labelled text) (token_texts_of text)
