-- The lines of a deck's source are numbered one after the other, as those of a text of its own are from 1.
use Rattle.std.proofs.Common.{◌≡◌, ℕ, zero, suc, ◌+◌, ◌-◌, ◌≤◌, Bool, true, false, List, [], ◌∷◌, length, map, take, Option, None, Some, refl, sym, ap, ◌∙◌, subst, arith, ◌==◌}
use Rattle.std.specs.Bool.{if◌then◌else◌}
use Rattle.std.specs.Prelude.{option_map}
use Rattle.std.specs.List.{slice_split}
use Rattle.lvdc_text.specs.Lines.{numbered_part, part_of, is_line_feed, lines_from, lines_of, texts_of, NumberedLine, numbered}
use Rattle.lvdc_text.specs.declared.cutting.Line.{Line}
use Rattle.lvdc_text.proofs.Texts.{texts-lines_of}
use Rattle.lvdc_image.specs.Reading.{texts}
use Rattle.lvdc_deck.specs.declared.section.Opening.{Opening}
use Rattle.lvdc_deck.specs.declared.section.Opening.TheVariants as opening
use Rattle.lvdc_deck.specs.declared.section.ProgramKind.TheVariants as kinds
use Rattle.lvdc_deck.specs.Deck.{end_of, opening_of}
use Rattle.lvdc_deck.specs.Loading.{source_by, source_from, source_in}
use Rattle.lvdc_deck.specs.Moving.{line_moved}

-- numbered one after the other, the first with this number
abbrev AreCounted : ℕ → List NumberedLine → Type 0
AreCounted n [] = Unit {0}
AreCounted n (line ∷ lines) = (line.number ≡ n) × AreCounted (n + 1) lines

-- numbered one after the other, the first with some number from 1 on
abbrev AreOneByOne : List NumberedLine → Type 0
AreOneByOne [] = Unit {0}
AreOneByOne (line ∷ lines) = (1 ≤ line.number) × AreCounted (line.number + 1) lines

-- ---- the lines of bytes

last-counted : (bytes : List ℕ) (number start count : ℕ) (b : Bool) → AreCounted number (numbered bytes (if b then [] else numbered_part number start count ∷ []))
last-counted bytes number start count true = tt
last-counted bytes number start count false = (refl, tt)

from-counted : (bytes : List ℕ) (number start : ℕ) (pieces : List (List ℕ)) → AreCounted number (numbered bytes (lines_from number start pieces))
unfolding lines_from
from-counted bytes number start [] = tt
from-counted bytes number start (piece ∷ []) = last-counted bytes number start (length piece) (length piece == 0)
from-counted bytes number start (piece ∷ next ∷ pieces) = (refl, from-counted bytes (number + 1) (start + length piece + 1) (next ∷ pieces))

lines-counted : (bytes : List ℕ) → AreCounted 1 (numbered bytes (lines_of bytes))
lines-counted bytes = from-counted bytes 1 0 (slice_split is_line_feed bytes)

texts-numbered : (bytes : List ℕ) (lines : List Line) → texts (numbered bytes lines) ≡ map (part_of bytes) lines
texts-numbered bytes [] = refl
texts-numbered bytes (line ∷ lines) = ap (λ (ts : List (List ℕ)). part_of bytes line ∷ ts) (texts-numbered bytes lines)

-- ---- the source of a deck

take-counted : (bytes : List ℕ) (n count : ℕ) (lines : List Line) → AreCounted n (numbered bytes lines) → AreCounted n (numbered bytes (take count lines))
take-counted bytes n zero lines counted = tt
take-counted bytes n (suc count) [] counted = tt
take-counted bytes n (suc count) (line ∷ lines) counted = (counted.0, take-counted bytes (n + 1) count lines counted.1)

one-by-one : (n : ℕ) (lines : List NumberedLine) → 1 ≤ n → AreCounted n lines → AreOneByOne lines
one-by-one n [] some counted = tt
one-by-one n (line ∷ lines) some counted = (subst (λ (m : ℕ). 1 ≤ m) (sym counted.0) some, subst (λ (m : ℕ). AreCounted (m + 1) lines) (sym counted.0) counted.1)

by-place : (bytes : List ℕ) (n : ℕ) (lines text : List Line) (at : Option ℕ) → 1 ≤ n → AreCounted n (numbered bytes lines) →
    option_map (λ (m : ℕ). take (m + 1) lines) at ≡ Some text → AreOneByOne (numbered bytes text)
by-place bytes n lines text (Some at) some counted is =
    let here : take (at + 1) lines ≡ text = cc in
    subst (λ (ls : List Line). AreOneByOne (numbered bytes ls)) here (one-by-one n (numbered bytes (take (at + 1) lines)) some (take-counted bytes n (at + 1) lines counted))
by-place bytes n lines text None some counted is = absurd (cc)

by-first : (bytes : List ℕ) (n : ℕ) (lines text : List Line) (what : Opening) (later : Option (List Line)) → 1 ≤ n → AreCounted n (numbered bytes lines) →
    (later ≡ Some text → AreOneByOne (numbered bytes text)) → source_by bytes lines what later ≡ Some text → AreOneByOne (numbered bytes text)
by-first bytes n lines text opening.Skipped later some counted more is = more is
by-first bytes n lines text (opening.Program kinds.Source) later some counted more is = by-place bytes n lines text (end_of bytes lines) some counted is
by-first bytes n lines text (opening.Program kinds.Image) later some counted more is = absurd (cc)
by-first bytes n lines text opening.Long later some counted more is = absurd (cc)
by-first bytes n lines text opening.Other later some counted more is = absurd (cc)

source-counted : (bytes : List ℕ) (n : ℕ) (lines text : List Line) → AreCounted n (numbered bytes lines) → source_from bytes lines ≡ Some text → AreOneByOne (numbered bytes text)
unfolding source_from
source-counted bytes n [] text counted is = absurd (cc)
source-counted bytes n (line ∷ lines) text counted is =
    let some : 1 ≤ n + 1 = omega arith in
    by-first bytes (n + 1) lines text (opening_of (part_of bytes line)) (source_from bytes lines) some counted.1 (source-counted bytes (n + 1) lines text counted.1) is

by-source : (bytes : List ℕ) (lines : Option (List Line)) (source : List NumberedLine) → ((text : List Line) → lines ≡ Some text → AreOneByOne (numbered bytes text)) →
    option_map (numbered bytes) lines ≡ Some source → AreOneByOne source
by-source bytes (Some text) source counted is = let here : numbered bytes text ≡ source = cc in subst AreOneByOne here (counted text refl)
by-source bytes None source counted is = absurd (cc)

-- ---- the same lines with other numbers

same-line : (k : ℕ) (line own : NumberedLine) → line.number ≡ k + own.number → own.text ≡ line.text → line ≡ line_moved k own
same-line k line own number text =
    ap (λ (n : ℕ). record { number = n; text = line.text }) number ∙ ap (λ (t : List ℕ). record { number = k + own.number; text = t }) (sym text)

same-lines : (k m n : ℕ) (lines own : List NumberedLine) → m ≡ k + n → AreCounted m lines → AreCounted n own → texts own ≡ texts lines → lines ≡ map (line_moved k) own
same-lines k m n [] [] is counted its same = refl
same-lines k m n [] (first ∷ own) is counted its same = absurd (cc)
same-lines k m n (line ∷ lines) [] is counted its same = absurd (cc)
same-lines k m n (line ∷ lines) (first ∷ own) is counted its same =
    let number : line.number ≡ k + first.number = omega (arith, counted.0, its.0, is) in
    let text : first.text ≡ line.text = cc in
    let later : texts own ≡ texts lines = cc in
    let next : m + 1 ≡ k + (n + 1) = omega (arith, is) in
    ap (λ (l : NumberedLine). l ∷ lines) (same-line k line first number text)
    ∙ ap (λ (ls : List NumberedLine). line_moved k first ∷ ls) (same-lines k (m + 1) (n + 1) lines own next counted.1 its.1 later)

pub source-numbered : (bytes own : List ℕ) (line : NumberedLine) (lines : List NumberedLine) → source_in bytes ≡ Some (line ∷ lines) →
    texts_of own ≡ texts (line ∷ lines) → line ∷ lines ≡ map (line_moved (line.number - 1)) (numbered own (lines_of own))
source-numbered bytes own line lines begins same =
    let counted : AreOneByOne (line ∷ lines) =
    by-source bytes (source_from bytes (lines_of bytes)) (line ∷ lines) (λ text is. source-counted bytes 1 (lines_of bytes) text (lines-counted bytes) is) begins in
    let first : line.number ≡ line.number - 1 + 1 = omega (arith, counted.0) in
    same-lines (line.number - 1) line.number 1 (line ∷ lines) (numbered own (lines_of own)) first (refl, counted.1) (lines-counted own)
    (texts-numbered own (lines_of own) ∙ texts-lines_of own ∙ same)

-- a text of its own has a line where the source has one, and none where it has none
pub source-none : (own : List ℕ) → texts_of own ≡ texts [] → numbered own (lines_of own) ≡ []
source-none own same = none (numbered own (lines_of own)) (texts-numbered own (lines_of own) ∙ texts-lines_of own ∙ same)
  where
    none : (lines : List NumberedLine) → texts lines ≡ [] → lines ≡ []
    none [] is = refl
    none (line ∷ lines) is = absurd (cc)
