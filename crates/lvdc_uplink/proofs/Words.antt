-- The words of a FRAME line, one after another.
use Rattle.std.proofs.Common.{◌≡◌, ℕ, ◌+◌, ◌<◌, ◌≤◌, List, [], ◌∷◌, ◌++◌, map, length, get_or, drop, Option, None, Some, refl, sym, ap, ◌∙◌, append_assoc, append-nil}
use Rattle.std.proofs.lemmas.List.{drop_more, drop_all}
use Rattle.lvdc_text.specs.Numbers.{word_in}
use Rattle.lvdc_text.specs.declared.cutting.Token.{Token}
use Rattle.lvdc_uplink.specs.Messages.{and_words, words_in}

-- what an index past the end reads
abbrev pub no_token : Token
no_token = record { start = 0; end = 0 }

-- these words before the later ones
abbrev pub before_words : List ℕ → Option (List ℕ) → Option (List ℕ)
before_words words None = None
before_words words (Some more) = Some (words ++ more)

pub before_words-none : (later : Option (List ℕ)) → before_words [] later ≡ later
before_words-none None = refl
before_words-none (Some more) = refl

before_words-one : (words : List ℕ) (word : ℕ) (later : Option (List ℕ)) → before_words words (and_words (Some word) later) ≡ before_words (words ++ word ∷ []) later
before_words-one words word None = refl
before_words-one words word (Some more) = ap (λ (ws : List ℕ). Some ws) (sym (append_assoc words (word ∷ []) more))

module _ (text_of : Token → List ℕ) (tokens : List Token) (i : ℕ) (d : Token) (words : List ℕ) (total : Option (List ℕ))
    (so_far : before_words words (words_in (map text_of (drop i tokens))) ≡ total) where
  by_this : i < length tokens → before_words words (and_words (word_in (text_of (get_or tokens i d))) (words_in (map text_of (drop (i + 1) tokens)))) ≡ total
  by_this within = ap (λ (ts : List Token). before_words words (words_in (map text_of ts))) (sym (drop_more tokens i d within)) ∙ so_far

  pub words-more : i < length tokens → (word : ℕ) → word_in (text_of (get_or tokens i d)) ≡ Some word
      → before_words (words ++ word ∷ []) (words_in (map text_of (drop (i + 1) tokens))) ≡ total
  words-more within word is =
      sym (before_words-one words word (words_in (map text_of (drop (i + 1) tokens))))
      ∙ ap (λ (o : Option ℕ). before_words words (and_words o (words_in (map text_of (drop (i + 1) tokens))))) (sym is) ∙ by_this within

  pub words-other : i < length tokens → word_in (text_of (get_or tokens i d)) ≡ None → total ≡ None
  words-other within is =
      sym (by_this within) ∙ ap (λ (o : Option ℕ). before_words words (and_words o (words_in (map text_of (drop (i + 1) tokens))))) is

  pub words-done : length tokens ≤ i → total ≡ Some words
  words-done all =
      sym so_far ∙ ap (λ (ts : List Token). before_words words (words_in (map text_of ts))) (drop_all i tokens all)
      ∙ ap (λ (ws : List ℕ). Some ws) (append-nil words)
