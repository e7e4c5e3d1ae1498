-- Lines that are one word alone.
use Rattle.std.specs.Prelude.{ℕ, Bool, false, List, [], ◌∷◌, position}
use Rattle.std.specs.Str.{bytes_eq}
use Rattle.std.specs.declared.option.Option.{Option}
use Rattle.lvdc_text.specs.Lines.{part_of, token_texts_of}
use Rattle.lvdc_text.specs.declared.cutting.Line.{Line}

-- these tokens are one word, and it is this one
abbrev pub is_word : List ℕ → List (List ℕ) → Bool
is_word word (token ∷ []) = bytes_eq token word
is_word word tokens = false

-- the text is this word alone, but for outer blanks
abbrev pub is_alone : List ℕ → List ℕ → Bool
is_alone word text = is_word word (token_texts_of text)

-- the place of the first of these lines that is this word alone
abbrev pub place_of : List ℕ → List ℕ → List Line → Option ℕ
place_of word bytes lines = position (λ line. is_alone word (part_of bytes line)) lines
