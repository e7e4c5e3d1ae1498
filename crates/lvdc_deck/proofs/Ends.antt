-- The line END is sought once: its place among all lines says that among later ones.
use Rattle.std.proofs.Common.{◌≡◌, ℕ, ◌+◌, ◌-◌, ◌<◌, Bool, true, false, not, ◌&&◌, cond, nat_lt, List, [], ◌∷◌, length, get_or, drop, filter, Option, None, Some, option_map, IfSome, codes, bytes_eq, refl, sym, ap, ◌∙◌, subst, arith, if◌then◌else◌, true≢false, ◌==◌, ◌||◌}
use Rattle.std.specs.List.{position, position_or_len, slice_split, onto_first, list_all}
use Rattle.std.proofs.lemmas.List.{drop_more}
use Rattle.std.proofs.lemmas.List.Quantifiers.{position-Some}
use Rattle.std.proofs.lemmas.List.Splits.{slice_split-cons_yes}
use Rattle.std.proofs.lemmas.Slice.Eq.{bytes_eq-Decides}
use Rattle.std.proofs.lemmas.Bool.Decides.{nat_tests}
use Rattle.lvdc_text.specs.Headings.{is_word, is_alone}
use Rattle.lvdc_text.specs.Lines.{part_of, is_blank, has_bytes, token_texts_of, is_long, is_comment}
use Rattle.lvdc_text.specs.declared.cutting.Line.{Line}
use Rattle.lvdc_deck.specs.Deck.{end_of, opened_by, opening_of}
use Rattle.lvdc_deck.specs.declared.section.Opening.TheVariants as opening
use Rattle.lvdc_deck.specs.declared.section.ProgramKind.{ProgramKind}
use Rattle.lvdc_deck.specs.declared.section.ProgramKind.TheVariants as kinds

-- ---- places

-- a place so many lines further back
abbrev pub further : ℕ → Option ℕ → Option ℕ
further k place = option_map (λ (n : ℕ). n + k) place

further-none : (place : Option ℕ) → further 0 place ≡ place
further-none None = refl
further-none (Some n) = ap (λ (m : ℕ). Some m) (omega arith)

further-next : (k : ℕ) (place : Option ℕ) → further k (option_map (λ (n : ℕ). 1 + n) place) ≡ further (k + 1) place
further-next k None = refl
further-next k (Some n) = ap (λ (m : ℕ). Some m) (omega arith)

-- it stands behind the lines before it
pub further-behind : (k : ℕ) (place found : Option ℕ) → found ≡ further (k + 1) place → IfSome found (λ (n : ℕ). k < n)
further-behind k None found is = subst (λ (o : Option ℕ). IfSome o (λ (m : ℕ). k < m)) (sym is) tt
further-behind k (Some n) found is =
    let behind : k < n + (k + 1) = omega arith in subst (λ (o : Option ℕ). IfSome o (λ (m : ℕ). k < m)) (sym is) behind

-- and counted from them it is the first place again
pub further-back : (k : ℕ) (place found : Option ℕ) → found ≡ further (k + 1) place → option_map (λ (n : ℕ). n - (k + 1)) found ≡ place
further-back k None found is = ap (option_map (λ (n : ℕ). n - (k + 1))) is
further-back k (Some n) found is = ap (option_map (λ (n : ℕ). n - (k + 1))) is ∙ ap (λ (m : ℕ). Some m) (omega arith)

module _ {X : Type 0} (test : X → Bool) where
  below-over : (x : X) (xs : List X) (at : ℕ) (below : Bool) → nat_lt at (length xs) ≡ below → nat_lt (1 + at) (length (x ∷ xs)) ≡ below
  below-over x xs at true is = grind (arith, nat_tests)
  below-over x xs at false is = grind (arith, nat_tests)

  place-over : (at : ℕ) (below : Bool) → (if below then Some (1 + at) else None) ≡ option_map (λ (n : ℕ). 1 + n) (if below then Some at else None)
  place-over at true = refl
  place-over at false = refl

  -- an element that doesn't pass is passed over
  position-over : (x : X) (xs : List X) → test x ≡ false → position test (x ∷ xs) ≡ option_map (λ (n : ℕ). 1 + n) (position test xs)
  position-over x xs is =
      let at : position_or_len test (x ∷ xs) ≡ 1 + position_or_len test xs = ap (λ (t : Bool). cond (not t) (1 + position_or_len test xs) 0) is in
      ap (λ (n : ℕ). if nat_lt n (length (x ∷ xs)) then Some n else None) at
      ∙ ap (λ (b : Bool). if b then Some (1 + position_or_len test xs) else None) (below-over x xs (position_or_len test xs) (nat_lt (position_or_len test xs) (length xs)) refl)
      ∙ place-over (position_or_len test xs) (nat_lt (position_or_len test xs) (length xs))

-- ---- lines that aren't END

-- nothing but blanks: no token
all-blank : (text : List ℕ) → list_all is_blank text ≡ true → filter has_bytes (slice_split is_blank text) ≡ []
all-blank [] all = refl
all-blank (b ∷ bs) all = by (is_blank b) refl all (all-blank bs) where
  by : (blank : Bool) → is_blank b ≡ blank → (blank && list_all is_blank bs) ≡ true → (list_all is_blank bs ≡ true → filter has_bytes (slice_split is_blank bs) ≡ [])
      → filter has_bytes (slice_split is_blank (b ∷ bs)) ≡ []
  by true is all later = ap (filter has_bytes) (slice_split-cons_yes is_blank b bs is) ∙ later all
  by false is all later = absurd (true≢false (sym all))

-- a first token with `*` in front
star-first : (pieces : List (List ℕ)) → is_word (codes "END") (filter has_bytes (onto_first 42 pieces)) ≡ false
star-first [] = refl
star-first (piece ∷ pieces) =
    let some : (length (42 ∷ piece) == 0) ≡ false = grind (arith, nat_tests) in
    ap (λ (empty : Bool). is_word (codes "END") (if not empty then (42 ∷ piece) ∷ filter has_bytes pieces else filter has_bytes pieces)) some ∙ by (filter has_bytes pieces)
  where
    by : (tokens : List (List ℕ)) → is_word (codes "END") ((42 ∷ piece) ∷ tokens) ≡ false
    by [] = refl
    by (token ∷ tokens) = refl

comment-other : (text : List ℕ) → is_comment text ≡ true → is_alone (codes "END") text ≡ false
comment-other [] is = refl
comment-other (b ∷ bs) is = by (b == 42) refl is where
  by : (star : Bool) → (b == 42) ≡ star → (star || list_all is_blank (b ∷ bs)) ≡ true → is_alone (codes "END") (b ∷ bs) ≡ false
  by true here any =
      let is : b ≡ 42 = grind (arith, nat_tests) in
      ap (λ (c : ℕ). is_alone (codes "END") (c ∷ bs)) is ∙ star-first (slice_split is_blank bs)
  by false here all = ap (is_word (codes "END")) (all-blank (b ∷ bs) all)

-- IMAGE or SOURCE
word-other : (word : List ℕ) (tokens : List (List ℕ)) → bytes_eq word (codes "END") ≡ false → is_word word tokens ≡ true → is_word (codes "END") tokens ≡ false
word-other word [] other is = absurd (true≢false (sym is))
word-other word (token ∷ []) other is =
    ap (λ (t : List ℕ). bytes_eq t (codes "END")) ((bytes_eq-Decides token word).0 is) ∙ other
word-other word (token ∷ next ∷ tokens) other is = refl

opened-some : (image source : Bool) → opening.Skipped ≡ (if image then opening.Program kinds.Image else (if source then opening.Program kinds.Source else opening.Other)) → ⊥
opened-some true source is = absurd (cc)
opened-some false true is = absurd (cc)
opened-some false false is = absurd (cc)

-- a line that is skipped
pub skipped-other : (text : List ℕ) → opening.Skipped ≡ opening_of text → is_alone (codes "END") text ≡ false
skipped-other text is = by (is_long text) (is_comment text) refl is where
  by : (long comment : Bool) → is_comment text ≡ comment → opening.Skipped ≡ (if long then opening.Long else (if comment then opening.Skipped else opened_by (token_texts_of text)))
      → is_alone (codes "END") text ≡ false
  by true comment here is = absurd (cc)
  by false true here is = comment-other text here
  by false false here is = absurd (opened-some (is_word (codes "IMAGE") (token_texts_of text)) (is_word (codes "SOURCE") (token_texts_of text)) is)

-- a line that opens a program
pub program-other : (text : List ℕ) (kind : ProgramKind) → opening.Program kind ≡ opening_of text → is_alone (codes "END") text ≡ false
program-other text kind is = by (is_long text) (is_comment text) is where
  by_word : (image source : Bool) → is_word (codes "IMAGE") (token_texts_of text) ≡ image → is_word (codes "SOURCE") (token_texts_of text) ≡ source
      → opening.Program kind ≡ (if image then opening.Program kinds.Image else (if source then opening.Program kinds.Source else opening.Other)) → is_alone (codes "END") text ≡ false
  by_word true source first second is = word-other (codes "IMAGE") (token_texts_of text) refl first
  by_word false true first second is = word-other (codes "SOURCE") (token_texts_of text) refl second
  by_word false false first second is = absurd (cc)

  by : (long comment : Bool) → opening.Program kind ≡ (if long then opening.Long else (if comment then opening.Skipped else opened_by (token_texts_of text)))
      → is_alone (codes "END") text ≡ false
  by true comment is = absurd (cc)
  by false true is = absurd (cc)
  by false false is = by_word (is_word (codes "IMAGE") (token_texts_of text)) (is_word (codes "SOURCE") (token_texts_of text)) refl refl is

-- ---- the place of END

-- it stands among the lines
pub end-below : (bytes : List ℕ) (lines : List Line) (found : Option ℕ) → found ≡ end_of bytes lines → IfSome found (λ (n : ℕ). n < length lines)
end-below bytes lines None is = tt
end-below bytes lines (Some n) is =
    (position-Some (λ (line : Line). is_alone (codes "END") (part_of bytes line)) lines n (record { number = 0; start = 0; end = 0 }) (sym is)).0

-- a line that isn't END is passed over
pub end-over : (bytes : List ℕ) (lines : List Line) (i : ℕ) (d : Line) (found : Option ℕ) → i < length lines → found ≡ further i (end_of bytes (drop i lines))
    → is_alone (codes "END") (part_of bytes (get_or lines i d)) ≡ false → found ≡ further (i + 1) (end_of bytes (drop (i + 1) lines))
end-over bytes lines i d found within is other =
    is ∙ ap (λ (ls : List Line). further i (end_of bytes ls)) (drop_more lines i d within)
    ∙ ap (further i) (position-over (λ (line : Line). is_alone (codes "END") (part_of bytes line)) (get_or lines i d) (drop (i + 1) lines) other)
    ∙ further-next i (end_of bytes (drop (i + 1) lines))

-- before the first line none is passed over
pub end-first : (bytes : List ℕ) (lines : List Line) (found : Option ℕ) → found ≡ end_of bytes lines → found ≡ further 0 (end_of bytes (drop 0 lines))
end-first bytes lines found is = is ∙ sym (further-none (end_of bytes lines))
