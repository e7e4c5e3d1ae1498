-- The lines before a line are those of the bytes before it.
use Rattle.std.proofs.Common.{◌≡◌, ℕ, zero, suc, ◌+◌, ◌-◌, ◌≤◌, Bool, true, false, List, [], ◌∷◌, ◌++◌, length, take, drop, refl, ap, sym, ◌∙◌, subst, append_assoc, arith, All}
use Rattle.std.proofs.Math.Seq.{take-append-add}
use Rattle.std.proofs.lemmas.List.{append-nil, drop_all}
use Rattle.std.proofs.lemmas.List.Elements.{All-nil, All-push}
use Rattle.std.proofs.lemmas.List.Splits.{slice_split_at, length-slice_split}
use Rattle.std.specs.List.{slice_split}
use Rattle.std.specs.Str.Lines.{strip_carriage_return}
use Rattle.lvdc_text.specs.declared.cutting.Line.{Line}
use Rattle.lvdc_text.specs.Lines.{numbered_part, is_line_feed, lines_from, lines_of}
use Rattle.lvdc_text.proofs.FirstParts.{lines_from-ended, lines_from-empty, last_line}

-- the lines of these bytes, where the first has this number and begins here
abbrev cut : ℕ → ℕ → List ℕ → List Line
cut number start bytes = lines_from number start (slice_split is_line_feed bytes)

-- the line begins here or later, and the first lines, so many, are those of the bytes before it
record Before (number start k : ℕ) (bytes : List ℕ) (line : Line) : Type 0 where
  pub later : start ≤ line.start
  pub same : cut number start (take (line.start - start) bytes) ≡ take k (cut number start bytes)

cut-nothing : (number start : ℕ) → cut number start [] ≡ []
cut-nothing number start = lines_from-empty number start

-- a line that a byte ends
cut-ended : (number start b : ℕ) (text rest : List ℕ) → All (λ b. is_line_feed b ≡ false) text → is_line_feed b ≡ true
    → cut number start (text ++ b ∷ rest) ≡ numbered_part number start (length (strip_carriage_return text)) ∷ cut (number + 1) (start + length text + 1) rest
cut-ended number start b text rest h k =
    ap (lines_from number start) (slice_split_at is_line_feed text b rest h k)
    ∙ lines_from-ended number start text (slice_split is_line_feed rest) (omega (arith, length-slice_split is_line_feed rest))

-- a first line begins where its text does
begins : (one line : Line) (later rest : List Line) → one ∷ later ≡ line ∷ rest → line.start ≡ one.start
begins one line later rest e = let same : line ≡ one = cc in ap (λ (l : Line). l.start) same

-- nothing stands before a line that begins here
at_start : (number start : ℕ) (bytes : List ℕ) (line : Line) → line.start ≡ start → Before number start 0 bytes line
at_start number start bytes line here =
    let no-bytes : line.start - start ≡ 0 = omega (arith, here) in
    record { later = omega (arith, here); same = ap (λ n. cut number start (take n bytes)) no-bytes ∙ cut-nothing number start }

-- one line more stands before a later one
one_more : (number start k b : ℕ) (text rest : List ℕ) (line : Line) → All (λ b. is_line_feed b ≡ false) text → is_line_feed b ≡ true
    → Before (number + 1) (start + length text + 1) k rest line → Before number start (suc k) (text ++ b ∷ rest) line
one_more number start k b text rest line h e before =
    let n = line.start - (start + length text + 1) in
    let place : line.start - start ≡ length text + suc n = omega (arith, before.later) in
    let ended = cut-ended number start b text rest h e in
    record {
      later = omega (arith, before.later);
      same =
          ap (λ n. cut number start (take n (text ++ b ∷ rest))) place
          ∙ ap (cut number start) (take-append-add text (b ∷ rest) (suc n))
          ∙ cut-ended number start b text (take n rest) h e
          ∙ ap (λ ls. numbered_part number start (length (strip_carriage_return text)) ∷ ls) before.same
          ∙ ap (take (suc k)) (sym ended);
    }

no-line : (k : ℕ) (line : Line) (rest : List Line) → drop k [] ≡ line ∷ rest → ⊥
no-line k line rest e = let no : drop {A = Line} k [] ≡ [] = drop_all k [] (omega arith) in absurd (cc)

-- a line that nothing ends
unended : (text : List ℕ) (number start k : ℕ) (line : Line) (rest : List Line) → All (λ b. is_line_feed b ≡ false) text
    → drop k (cut number start text) ≡ line ∷ rest → Before number start k text line
unended [] number start k line rest h e = absurd (no-line k line rest (ap (drop k) (sym (cut-nothing number start)) ∙ e))
unended (t ∷ text) number start zero line rest h e =
    at_start number start (t ∷ text) line
    (begins (numbered_part number start (length (t ∷ text))) line [] rest (sym (last_line number start (t ∷ text) h (omega arith)) ∙ e))
unended (t ∷ text) number start (suc k) line rest h e =
    absurd (no-line k line rest (ap (drop (suc k)) (sym (last_line number start (t ∷ text) h (omega arith))) ∙ e))

-- a byte ends the line in hand
ended : (number start k b : ℕ) (text bytes : List ℕ) (line : Line) (rest : List Line) → All (λ b. is_line_feed b ≡ false) text → is_line_feed b ≡ true
    → ((k : ℕ) → drop k (cut (number + 1) (start + length text + 1) bytes) ≡ line ∷ rest → Before (number + 1) (start + length text + 1) k bytes line)
    → drop k (cut number start (text ++ b ∷ bytes)) ≡ line ∷ rest → Before number start k (text ++ b ∷ bytes) line
ended number start zero b text bytes line rest h is later e =
    at_start number start (text ++ b ∷ bytes) line
    (begins (numbered_part number start (length (strip_carriage_return text))) line (cut (number + 1) (start + length text + 1) bytes) rest (sym (cut-ended number start b text bytes h is) ∙ e))
ended number start (suc k) b text bytes line rest h is later e =
    one_more number start k b text bytes line h is (later k (ap (drop (suc k)) (sym (cut-ended number start b text bytes h is)) ∙ e))

-- a byte goes on with it
gone-on : (number start k b : ℕ) (text bytes : List ℕ) (line : Line) (rest : List Line)
    → (drop k (cut number start ((text ++ b ∷ []) ++ bytes)) ≡ line ∷ rest → Before number start k ((text ++ b ∷ []) ++ bytes) line)
    → drop k (cut number start (text ++ b ∷ bytes)) ≡ line ∷ rest → Before number start k (text ++ b ∷ bytes) line
gone-on number start k b text bytes line rest later e =
    let same = append_assoc text (b ∷ []) bytes in
    subst (λ bs. Before number start k bs line) same (later (ap (λ bs. drop k (cut number start bs)) same ∙ e))

by_byte : (number start k b : ℕ) (text bytes : List ℕ) (line : Line) (rest : List Line) (v : Bool) → is_line_feed b ≡ v → All (λ b. is_line_feed b ≡ false) text
    → ((k : ℕ) → drop k (cut (number + 1) (start + length text + 1) bytes) ≡ line ∷ rest → Before (number + 1) (start + length text + 1) k bytes line)
    → (All (λ b. is_line_feed b ≡ false) (text ++ b ∷ []) → drop k (cut number start ((text ++ b ∷ []) ++ bytes)) ≡ line ∷ rest → Before number start k ((text ++ b ∷ []) ++ bytes) line)
    → drop k (cut number start (text ++ b ∷ bytes)) ≡ line ∷ rest → Before number start k (text ++ b ∷ bytes) line
by_byte number start k b text bytes line rest true is h new more e = ended number start k b text bytes line rest h is new e
by_byte number start k b text bytes line rest false is h new more e =
    gone-on number start k b text bytes line rest (more (All-push (λ b. is_line_feed b ≡ false) text b h is)) e

before : (text bytes : List ℕ) (number start k : ℕ) (line : Line) (rest : List Line) → All (λ b. is_line_feed b ≡ false) text
    → drop k (cut number start (text ++ bytes)) ≡ line ∷ rest → Before number start k (text ++ bytes) line
before text [] number start k line rest h e =
    subst (λ bs. Before number start k bs line) (sym (append-nil text))
    (unended text number start k line rest h (ap (λ bs. drop k (cut number start bs)) (sym (append-nil text)) ∙ e))
before text (b ∷ bytes) number start k line rest h e =
    by_byte number start k b text bytes line rest (is_line_feed b) refl h
    (λ k. before [] bytes (number + 1) (start + length text + 1) k line rest (All-nil (λ b. is_line_feed b ≡ false)))
    (before (text ++ b ∷ []) bytes number start k line rest) e

-- so many lines stand before a line of the bytes
pub lines_before : (bytes : List ℕ) (k : ℕ) (line : Line) (rest : List Line) → drop k (lines_of bytes) ≡ line ∷ rest → lines_of (take line.start bytes) ≡ take k (lines_of bytes)
lines_before bytes k line rest e =
    let all : line.start ≡ line.start - 0 = omega arith in
    ap (λ n. lines_of (take n bytes)) all ∙ (before [] bytes 1 0 k line rest (All-nil (λ b. is_line_feed b ≡ false)) e).same
