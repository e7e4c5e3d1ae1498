-- Lines with LF after each, as they are cut from their text again.
use Rattle.std.proofs.Common.{◌≡◌, ℕ, ◌+◌, ◌-◌, ◌<◌, ◌≤◌, zero, suc, Bool, true, false, eqb, ◌==◌, List, [], ◌∷◌, ◌++◌, All, map, length, take, get_or, refl, ap, ◌∙◌, arith, if◌then◌else◌}
use Rattle.std.specs.List.{list_all, slice_split}
use Rattle.std.specs.Str.Lines.{strip_carriage_return, lines_of_parts}
use Rattle.std.proofs.lemmas.Bool.{leb-true}
use Rattle.std.proofs.lemmas.Bool.Decides.{nat_tests}
use Rattle.std.proofs.lemmas.List.Elements.{All-nil, All-cons}
use Rattle.std.proofs.lemmas.List.Splits.{slice_split_at, length-slice_split}
use Rattle.lvdc_text.specs.Lines.{NumberedLine, is_line_feed, numbered_part, part_of, lines_from, lines_of, texts_of, numbered_line, numbered}
use Rattle.lvdc_text.proofs.Texts.{texts-lines_of}
use Rattle.lvdc_save.proofs.Below.{both}
use Rattle.lvdc_save.proofs.Words.{is_printing}

-- lines, each with LF after it
abbrev pub ended : List (List ℕ) → List ℕ
ended [] = []
ended (line ∷ lines) = line ++ 10 ∷ ended lines

-- no line has a control byte
abbrev pub ArePrinting : List (List ℕ) → Type 0
ArePrinting [] = Unit {0}
ArePrinting (line ∷ lines) = (list_all is_printing line ≡ true) × ArePrinting lines

printing-no_feed : (b : ℕ) → is_printing b ≡ true → is_line_feed b ≡ false
printing-no_feed b e = let low : 32 ≤ b = leb-true 32 b e in grind (arith, nat_tests)

printing-no_return : (b : ℕ) → is_printing b ≡ true → eqb b 13 ≡ false
printing-no_return b e = let low : 32 ≤ b = leb-true 32 b e in grind (arith, nat_tests)

no_feed : (line : List ℕ) → list_all is_printing line ≡ true → All (λ (b : ℕ). is_line_feed b ≡ false) line
no_feed [] e = All-nil (λ (b : ℕ). is_line_feed b ≡ false)
no_feed (b ∷ bs) e =
    let tests = both (is_printing b) (list_all is_printing bs) e in
    All-cons (λ (b : ℕ). is_line_feed b ≡ false) b bs (printing-no_feed b tests.0) (no_feed bs tests.1)

no_return : (line : List ℕ) (i : ℕ) → list_all is_printing line ≡ true → eqb (get_or line i 0) 13 ≡ false
no_return [] i e = refl
no_return (b ∷ bs) zero e = printing-no_return b (both (is_printing b) (list_all is_printing bs) e).0
no_return (b ∷ bs) (suc i) e = no_return bs i (both (is_printing b) (list_all is_printing bs) e).1

kept : (line : List ℕ) → list_all is_printing line ≡ true → strip_carriage_return line ≡ line
kept line e = ap (λ (cr : Bool). if cr then take (length line - 1) line else line) (no_return line (length line - 1) e)

parts-cons : (part : List ℕ) (parts : List (List ℕ)) → 0 < length parts
    → lines_of_parts (part ∷ parts) ≡ strip_carriage_return part ∷ lines_of_parts parts
parts-cons part [] l = absurd (omega arith)
parts-cons part (next ∷ parts) l = refl

-- the lines of their text are these lines
texts-ended : (lines : List (List ℕ)) → ArePrinting lines → texts_of (ended lines) ≡ lines
texts-ended [] printing = refl
texts-ended (line ∷ lines) printing =
    ap lines_of_parts (slice_split_at is_line_feed line 10 (ended lines) (no_feed line printing.0) refl)
    ∙ parts-cons line (slice_split is_line_feed (ended lines)) (omega (arith, length-slice_split is_line_feed (ended lines)))
    ∙ rw (kept line printing.0, texts-ended lines printing.1) refl

-- texts, numbered from this number on
abbrev pub counted : ℕ → List (List ℕ) → List NumberedLine
counted number [] = []
counted number (text ∷ texts) = record { number = number; text = text } ∷ counted (number + 1) texts

open_part : (bytes : List ℕ) (number start size : ℕ) (none : Bool) →
    numbered bytes (if none then [] else numbered_part number start size ∷ [])
    ≡ counted number (map (part_of bytes) (if none then [] else numbered_part number start size ∷ []))
open_part bytes number start size true = refl
open_part bytes number start size false = refl

numbered-from : (bytes : List ℕ) (number start : ℕ) (pieces : List (List ℕ)) →
    numbered bytes (lines_from number start pieces) ≡ counted number (map (part_of bytes) (lines_from number start pieces))
unfolding lines_from
numbered-from bytes number start [] = refl
numbered-from bytes number start (piece ∷ []) = open_part bytes number start (length piece) (length piece == 0)
numbered-from bytes number start (piece ∷ next ∷ pieces) =
    ap (λ (rest : List NumberedLine). numbered_line bytes (numbered_part number start (length (strip_carriage_return piece))) ∷ rest)
    (numbered-from bytes (number + 1) (start + length piece + 1) (next ∷ pieces))

-- the numbered lines of a text of such lines
pub numbered-ended : (lines : List (List ℕ)) → ArePrinting lines → numbered (ended lines) (lines_of (ended lines)) ≡ counted 1 lines
numbered-ended lines printing =
    numbered-from (ended lines) 1 0 (slice_split is_line_feed (ended lines)) ∙ ap (counted 1) (texts-lines_of (ended lines))
    ∙ ap (counted 1) (texts-ended lines printing)
