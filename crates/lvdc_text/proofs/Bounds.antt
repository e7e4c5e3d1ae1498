-- Lines and tokens lie within the bytes, and are no more than these.
use Rattle.std.proofs.Common.{◌≡◌, ℕ, ◌+◌, ◌-◌, ◌<◌, ◌≤◌, Bool, true, false, List, [], ◌∷◌, length, take, get_or, refl, sym, ap, ◌∙◌, subst, arith, if◌then◌else◌, All, length-take, ◌==◌}
use Rattle.std.specs.List.{AllByRecursion, slice_split, onto_first}
use Rattle.std.specs.Str.Lines.{strip_carriage_return}
use Rattle.std.proofs.lemmas.List.Elements.{All-from_recursion}
use Rattle.std.proofs.lemmas.List.Splits.{slice_split-cons_yes, slice_split-cons_no, length-slice_split}
use Rattle.lvdc_text.specs.Lines.{is_line_feed, lines_from, lines_of, is_blank, tokens_from, tokens_of, IsWithin, LiesIn}
use Rattle.lvdc_text.proofs.FirstParts.{lines_from-ended, lines_from-open, lines_from-empty, lines_from-none, tokens_from-empty, tokens_from-none, tokens_from-some}

-- the bytes of the pieces, and one more for each
abbrev size_of : List (List ℕ) → ℕ
size_of [] = 0
size_of (piece ∷ pieces) = length piece + 1 + size_of pieces

size_of-onto_first : (b : ℕ) (pieces : List (List ℕ)) → 0 < length pieces → size_of (onto_first b pieces) ≡ size_of pieces + 1
size_of-onto_first b [] l = absurd (omega arith)
size_of-onto_first b (piece ∷ pieces) l = omega arith

size_of-next : (ends : ℕ → Bool) (b : ℕ) (bs : List ℕ) → size_of (slice_split ends bs) ≡ length bs + 1 → (v : Bool) → ends b ≡ v → size_of (slice_split ends (b ∷ bs)) ≡ length (b ∷ bs) + 1
size_of-next ends b bs h true e = ap size_of (slice_split-cons_yes ends b bs e) ∙ omega arith
size_of-next ends b bs h false e =
    ap size_of (slice_split-cons_no ends b bs e) ∙ size_of-onto_first b (slice_split ends bs) (omega (arith, length-slice_split ends bs)) ∙ omega arith

size_of-slice_split : (ends : ℕ → Bool) (bytes : List ℕ) → size_of (slice_split ends bytes) ≡ length bytes + 1
size_of-slice_split ends [] = refl
size_of-slice_split ends (b ∷ bs) = size_of-next ends b bs (size_of-slice_split ends bs) (ends b) refl

length-either : (cr : Bool) (text : List ℕ) → length (if cr then take (length text - 1) text else text) ≤ length text
length-either true text = omega (arith, length-take (length text - 1) text)
length-either false text = omega arith

pub stripped_fits : (text : List ℕ) → length (strip_carriage_return text) ≤ length text
stripped_fits text = length-either (get_or text (length text - 1) 0 == 13) text

lines_from-within : (number start : ℕ) (pieces : List (List ℕ)) (bytes : List ℕ) → start + size_of pieces ≤ length bytes + 1 → number + size_of pieces ≤ length bytes + 2
    → AllByRecursion (IsWithin bytes) (lines_from number start pieces)
lines_from-within number start [] bytes s n = subst (AllByRecursion (IsWithin bytes)) (sym (lines_from-none number start)) tt
lines_from-within number start ([] ∷ []) bytes s n = subst (AllByRecursion (IsWithin bytes)) (sym (lines_from-empty number start)) tt
lines_from-within number start ((b ∷ bs) ∷ []) bytes s n =
    subst (AllByRecursion (IsWithin bytes)) (sym (lines_from-open number start (b ∷ bs) (omega arith)))
    (record { in_order = omega arith; in_range = omega arith; counted = omega arith }, tt)
lines_from-within number start (piece ∷ next ∷ pieces) bytes s n =
    let fits = stripped_fits piece in
    subst (AllByRecursion (IsWithin bytes)) (sym (lines_from-ended number start piece (next ∷ pieces) (omega arith)))
    (record { in_order = omega arith; in_range = omega arith; counted = omega arith }, lines_from-within (number + 1) (start + length piece + 1) (next ∷ pieces) bytes (omega arith) (omega arith))

tokens_from-within : (start : ℕ) (pieces : List (List ℕ)) (text : List ℕ) → start + size_of pieces ≤ length text + 1
    → AllByRecursion (LiesIn text) (tokens_from start pieces)
tokens_from-within start [] text s = subst (AllByRecursion (LiesIn text)) (sym (tokens_from-none start)) tt
tokens_from-within start ([] ∷ pieces) text s =
    subst (AllByRecursion (LiesIn text)) (sym (tokens_from-empty start pieces)) (tokens_from-within (start + 1) pieces text (omega arith))
tokens_from-within start ((b ∷ bs) ∷ pieces) text s =
    subst (AllByRecursion (LiesIn text)) (sym (tokens_from-some start (b ∷ bs) pieces (omega arith)))
    (record { in_order = omega arith; in_range = omega arith }, tokens_from-within (start + length (b ∷ bs) + 1) pieces text (omega arith))

pub lines_of-within : (bytes : List ℕ) → All (IsWithin bytes) (lines_of bytes)
lines_of-within bytes =
    let size = size_of-slice_split is_line_feed bytes in
    All-from_recursion (IsWithin bytes) (lines_of bytes) (lines_from-within 1 0 (slice_split is_line_feed bytes) bytes (omega arith) (omega arith))

pub tokens_of-within : (text : List ℕ) → All (LiesIn text) (tokens_of text)
tokens_of-within text =
    let size = size_of-slice_split is_blank text in
    All-from_recursion (LiesIn text) (tokens_of text) (tokens_from-within 0 (slice_split is_blank text) text (omega arith))

length-lines_from : (number start : ℕ) (pieces : List (List ℕ)) → length (lines_from number start pieces) ≤ size_of pieces - 1
length-lines_from number start [] = omega (arith, ap length (lines_from-none number start))
length-lines_from number start ([] ∷ []) = omega (arith, ap length (lines_from-empty number start))
length-lines_from number start ((b ∷ bs) ∷ []) = omega (arith, ap length (lines_from-open number start (b ∷ bs) (omega arith)))
length-lines_from number start (piece ∷ next ∷ pieces) =
    omega (arith, ap length (lines_from-ended number start piece (next ∷ pieces) (omega arith)), length-lines_from (number + 1) (start + length piece + 1) (next ∷ pieces))

length-tokens_from : (start : ℕ) (pieces : List (List ℕ)) → length (tokens_from start pieces) ≤ size_of pieces - 1
length-tokens_from start [] = omega (arith, ap length (tokens_from-none start))
length-tokens_from start ([] ∷ pieces) = omega (arith, ap length (tokens_from-empty start pieces), length-tokens_from (start + 1) pieces)
length-tokens_from start ((b ∷ bs) ∷ pieces) =
    omega (arith, ap length (tokens_from-some start (b ∷ bs) pieces (omega arith)), length-tokens_from (start + length (b ∷ bs) + 1) pieces)

pub length-lines_of : (bytes : List ℕ) → length (lines_of bytes) ≤ length bytes
length-lines_of bytes = omega (arith, length-lines_from 1 0 (slice_split is_line_feed bytes), size_of-slice_split is_line_feed bytes)

pub length-tokens_of : (text : List ℕ) → length (tokens_of text) ≤ length text
length-tokens_of text = omega (arith, length-tokens_from 0 (slice_split is_blank text), size_of-slice_split is_blank text)
