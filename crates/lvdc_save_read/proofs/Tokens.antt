-- Tokens one after the other: the latches of a COPY line, and the pairs of a SIMPLEX line.
use Rattle.std.proofs.Common.{◌≡◌, ℕ, ◌+◌, ◌-◌, ◌<◌, ◌≤◌, Bool, true, false, ◌||◌, List, [], ◌∷◌, ◌++◌, map, length, get_or, take, drop, Option, None, Some, refl, sym, ap, ◌∙◌, append_assoc, append-nil, ◌≢◌, arith}
use Rattle.std.specs.List.{list_any}
use Rattle.std.proofs.lemmas.List.{drop_more, drop_all, take_all}
use Rattle.lvdc_text.specs.declared.cutting.Token.{Token}
use Rattle.lvdc_text.specs.Numbers.{word_in}
use Rattle.lvdc_lines.specs.Fields.{decimal_in}
use Rattle.lvdc_save.specs.Entries.{steps_in, twin_in, spot_in, switch_in, words_with, words_in, copy_of, repair_of, copy_line_in, select_line_in, cell_line_in, word_line_in, exchange_line_in, repair_line_in, unplug_line_in}

-- the texts of the tokens from an index on begin with that of the token there
texts-more : (text_of : Token → List ℕ) (tokens : List Token) (i : ℕ) (d : Token) → i < length tokens →
    map text_of (drop i tokens) ≡ text_of (get_or tokens i d) ∷ map text_of (drop (i + 1) tokens)
texts-more text_of tokens i d within = ap (map text_of) (drop_more tokens i d within)

texts-done : (text_of : Token → List ℕ) (tokens : List Token) (i : ℕ) → length tokens ≤ i → map text_of (drop i tokens) ≡ []
texts-done text_of tokens i all = ap (map text_of) (drop_all i tokens all)

-- what an index past the end reads
abbrev pub no_token : Token
no_token = record { start = 0; end = 0 }

-- these words beside those that follow
abbrev pub and_words : List ℕ → Option (List ℕ) → Option (List ℕ)
and_words words (Some later) = Some (words ++ later)
and_words words None = None

pub and_words-none : (later : Option (List ℕ)) → and_words [] later ≡ later
and_words-none (Some words) = refl
and_words-none None = refl

and_words-with : (words : List ℕ) (word : ℕ) (later : Option (List ℕ)) → and_words words (words_with (Some word) later) ≡ and_words (words ++ word ∷ []) later
and_words-with words word (Some later) = ap (λ (ws : List ℕ). Some ws) (sym (append_assoc words (word ∷ []) later))
and_words-with words word None = refl

module _ (text_of : Token → List ℕ) (tokens : List Token) (i : ℕ) (d : Token) (words : List ℕ) (total : Option (List ℕ))
    (so_far : and_words words (words_in (map text_of (drop i tokens))) ≡ total) where
  by_word : i < length tokens → (found : Option ℕ) → word_in (text_of (get_or tokens i d)) ≡ found →
      and_words words (words_with found (words_in (map text_of (drop (i + 1) tokens)))) ≡ total
  by_word within found is =
      ap (λ (w : Option ℕ). and_words words (words_with w (words_in (map text_of (drop (i + 1) tokens))))) (sym is)
      ∙ ap (λ (ts : List (List ℕ)). and_words words (words_in ts)) (sym (texts-more text_of tokens i d within))
      ∙ so_far

  pub words-more : i < length tokens → (word : ℕ) → word_in (text_of (get_or tokens i d)) ≡ Some word →
      and_words (words ++ word ∷ []) (words_in (map text_of (drop (i + 1) tokens))) ≡ total
  words-more within word is = sym (and_words-with words word (words_in (map text_of (drop (i + 1) tokens)))) ∙ by_word within (Some word) is

  pub words-bad : i < length tokens → word_in (text_of (get_or tokens i d)) ≡ None → None ≡ total
  words-bad within is = by_word within None is

  pub words-done : length tokens ≤ i → Some words ≡ total
  words-done all =
      ap (λ (ws : List ℕ). Some ws) (sym (append-nil words))
      ∙ ap (λ (ts : List (List ℕ)). and_words words (words_in ts)) (sym (texts-done text_of tokens i all))
      ∙ so_far

-- ---- a test of tokens

module _ (text_of : Token → List ℕ) (test : List ℕ → Bool) (tokens : List Token) (i : ℕ) (d : Token)
    (so_far : list_any test (map text_of (drop i tokens)) ≡ list_any test (map text_of tokens)) where
  by_test : i < length tokens → (has : Bool) → test (text_of (get_or tokens i d)) ≡ has →
      (has || list_any test (map text_of (drop (i + 1) tokens))) ≡ list_any test (map text_of tokens)
  by_test within has is =
      ap (λ (b : Bool). b || list_any test (map text_of (drop (i + 1) tokens))) (sym is)
      ∙ ap (list_any test) (sym (texts-more text_of tokens i d within)) ∙ so_far

  pub test-found : i < length tokens → test (text_of (get_or tokens i d)) ≡ true → true ≡ list_any test (map text_of tokens)
  test-found within is = by_test within true is

  pub test-more : i < length tokens → test (text_of (get_or tokens i d)) ≡ false →
      list_any test (map text_of (drop (i + 1) tokens)) ≡ list_any test (map text_of tokens)
  test-more within is = by_test within false is

  pub test-done : length tokens ≤ i → false ≡ list_any test (map text_of tokens)
  test-done all = ap (list_any test) (sym (texts-done text_of tokens i all)) ∙ so_far

-- ---- lines with too few or too many tokens

pub copy_short : {A : Type 0} (text_of : A → List ℕ) (fields : List A) → length fields < 3 → copy_line_in (map text_of fields) ≡ None
copy_short text_of [] few = refl
copy_short text_of (a ∷ []) few = refl
copy_short text_of (a ∷ b ∷ []) few = refl
copy_short text_of (a ∷ b ∷ c ∷ rest) few = absurd (omega (arith, few))

pub cell_other : {A : Type 0} (text_of : A → List ℕ) (fields : List A) → length fields ≢ 5 → cell_line_in (map text_of fields) ≡ None
cell_other text_of [] other = refl
cell_other text_of (a ∷ []) other = refl
cell_other text_of (a ∷ b ∷ []) other = refl
cell_other text_of (a ∷ b ∷ c ∷ []) other = refl
cell_other text_of (a ∷ b ∷ c ∷ d ∷ []) other = refl
cell_other text_of (a ∷ b ∷ c ∷ d ∷ e ∷ []) other = absurd (other refl)
cell_other text_of (a ∷ b ∷ c ∷ d ∷ e ∷ f ∷ rest) other = refl

pub select_other : {A : Type 0} (text_of : A → List ℕ) (fields : List A) → length fields ≢ 4 → select_line_in (map text_of fields) ≡ None
select_other text_of [] other = refl
select_other text_of (a ∷ []) other = refl
select_other text_of (a ∷ b ∷ []) other = refl
select_other text_of (a ∷ b ∷ c ∷ []) other = refl
select_other text_of (a ∷ b ∷ c ∷ d ∷ []) other = absurd (other refl)
select_other text_of (a ∷ b ∷ c ∷ d ∷ e ∷ rest) other = refl

pub word_other : {A : Type 0} (text_of : A → List ℕ) (fields : List A) → length fields ≢ 4 → word_line_in (map text_of fields) ≡ None
word_other text_of [] other = refl
word_other text_of (a ∷ []) other = refl
word_other text_of (a ∷ b ∷ []) other = refl
word_other text_of (a ∷ b ∷ c ∷ []) other = refl
word_other text_of (a ∷ b ∷ c ∷ d ∷ []) other = absurd (other refl)
word_other text_of (a ∷ b ∷ c ∷ d ∷ e ∷ rest) other = refl

pub exchange_other : {A : Type 0} (reading : Bool) (text_of : A → List ℕ) (fields : List A) → length fields ≢ 3 → exchange_line_in reading (map text_of fields) ≡ None
exchange_other reading text_of [] other = refl
exchange_other reading text_of (a ∷ []) other = refl
exchange_other reading text_of (a ∷ b ∷ []) other = refl
exchange_other reading text_of (a ∷ b ∷ c ∷ []) other = absurd (other refl)
exchange_other reading text_of (a ∷ b ∷ c ∷ d ∷ rest) other = refl

pub repair_short : {A : Type 0} (text_of : A → List ℕ) (fields : List A) → length fields < 5 → repair_line_in (map text_of fields) ≡ None
repair_short text_of [] few = refl
repair_short text_of (a ∷ []) few = refl
repair_short text_of (a ∷ b ∷ []) few = refl
repair_short text_of (a ∷ b ∷ c ∷ []) few = refl
repair_short text_of (a ∷ b ∷ c ∷ d ∷ []) few = refl
repair_short text_of (a ∷ b ∷ c ∷ d ∷ e ∷ rest) few = absurd (omega (arith, few))

pub unplug_other : {A : Type 0} (text_of : A → List ℕ) (fields : List A) → length fields ≢ 2 → unplug_line_in (map text_of fields) ≡ None
unplug_other text_of [] other = refl
unplug_other text_of (a ∷ []) other = refl
unplug_other text_of (a ∷ b ∷ []) other = absurd (other refl)
unplug_other text_of (a ∷ b ∷ c ∷ rest) other = refl

-- ---- lines with enough tokens

pub copy_long : {A : Type 0} (text_of : A → List ℕ) (fields : List A) (d : A) → 3 ≤ length fields → copy_line_in (map text_of fields)
    ≡ copy_of (decimal_in 1 8 (text_of (get_or fields 0 d))) (decimal_in 1 4 (text_of (get_or fields 1 d))) (steps_in (text_of (get_or fields 2 d)))
    (words_in (map text_of (take (length fields - 3) (drop 3 fields))))
copy_long text_of [] d many = absurd (omega (arith, many))
copy_long text_of (a ∷ []) d many = absurd (omega (arith, many))
copy_long text_of (a ∷ b ∷ []) d many = absurd (omega (arith, many))
copy_long text_of (a ∷ b ∷ c ∷ rest) d many = rw (take_all (length (a ∷ b ∷ c ∷ rest) - 3) rest (omega arith)) refl

pub repair_long : {A : Type 0} (text_of : A → List ℕ) (fields : List A) (d : A) → 5 ≤ length fields → repair_line_in (map text_of fields)
    ≡ repair_of (switch_in (map text_of (take (length fields - 5) (drop 5 fields)))) (steps_in (text_of (get_or fields 0 d)))
    (spot_in (text_of (get_or fields 1 d)) (text_of (get_or fields 2 d)) (text_of (get_or fields 3 d))) (twin_in (text_of (get_or fields 4 d)))
repair_long text_of [] d many = absurd (omega (arith, many))
repair_long text_of (a ∷ []) d many = absurd (omega (arith, many))
repair_long text_of (a ∷ b ∷ []) d many = absurd (omega (arith, many))
repair_long text_of (a ∷ b ∷ c ∷ []) d many = absurd (omega (arith, many))
repair_long text_of (a ∷ b ∷ c ∷ e ∷ []) d many = absurd (omega (arith, many))
repair_long text_of (a ∷ b ∷ c ∷ e ∷ f ∷ rest) d many = rw (take_all (length (a ∷ b ∷ c ∷ e ∷ f ∷ rest) - 5) rest (omega arith)) refl
