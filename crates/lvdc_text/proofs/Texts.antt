-- The texts of the lines, and of the tokens, are the pieces that they were cut from.
use Rattle.std.proofs.Common.{◌≡◌, ℕ, ◌+◌, ◌-◌, ◌<◌, ◌≤◌, Bool, true, false, not, List, [], ◌∷◌, ◌++◌, length, take, drop, map, get_or, refl, sym, ap, ◌∙◌, subst, arith, if◌then◌else◌, length-take, ◌==◌}
use Rattle.std.specs.List.{slice_split, onto_first, filter}
use Rattle.std.specs.Str.Lines.{strip_carriage_return, lines_of_parts}
use Rattle.std.proofs.lemmas.List.{take-append-drop, take-append-le, drop-drop}
use Rattle.std.proofs.Math.Seq.{take-length}
use Rattle.std.proofs.lemmas.List.Splits.{slice_split-cons_yes, slice_split-cons_no, length-slice_split}
use Rattle.lvdc_text.specs.Lines.{numbered_part, part_of, is_line_feed, lines_from, lines_of, texts_of, is_blank, token_at, tokens_from, tokens_of, token_texts_of, has_bytes, token_text}
use Rattle.lvdc_text.proofs.FirstParts.{not_zero, lines_from-ended, lines_from-open, lines_from-empty, lines_from-none, tokens_from-empty, tokens_from-none, tokens_from-some}
use Rattle.lvdc_text.proofs.Bounds.{stripped_fits}

-- the pieces stand in the bytes one after the other from this place on, with a byte between
abbrev StandsFrom : List ℕ → ℕ → List (List ℕ) → Type 0
StandsFrom bytes start [] = Unit {0}
StandsFrom bytes start (piece ∷ pieces) = (take (length piece) (drop start bytes) ≡ piece) × StandsFrom bytes (start + length piece + 1) pieces

next_rest : (bytes : List ℕ) (start b : ℕ) (rest : List ℕ) → drop start bytes ≡ b ∷ rest → drop (start + 1) bytes ≡ rest
next_rest bytes start b rest e = sym (drop-drop 1 start bytes) ∙ ap (drop 1) e

stands-onto_first : (bytes : List ℕ) (start b : ℕ) (rest : List ℕ) (pieces : List (List ℕ)) → drop start bytes ≡ b ∷ rest → 0 < length pieces → StandsFrom bytes (start + 1) pieces → StandsFrom bytes start (onto_first b pieces)
stands-onto_first bytes start b rest [] e l h = absurd (omega arith)
stands-onto_first bytes start b rest (piece ∷ pieces) e l h =
    let place : start + 1 + length piece + 1 ≡ start + length (b ∷ piece) + 1 = omega arith in
    let front : take (length piece) rest ≡ piece = ap (take (length piece)) (sym (next_rest bytes start b rest e)) ∙ h.0 in
    (ap (take (length (b ∷ piece))) e ∙ ap (λ bs. b ∷ bs) front, subst (λ n. StandsFrom bytes n pieces) place h.1)

stands-next : (ends : ℕ → Bool) (bytes : List ℕ) (start b : ℕ) (rest : List ℕ) → drop start bytes ≡ b ∷ rest → StandsFrom bytes (start + 1) (slice_split ends rest) → (v : Bool) → ends b ≡ v → StandsFrom bytes start (slice_split ends (b ∷ rest))
stands-next ends bytes start b rest e h true k =
    let place : start + 1 ≡ start + 0 + 1 = omega arith in
    subst (StandsFrom bytes start) (sym (slice_split-cons_yes ends b rest k)) (refl, subst (λ n. StandsFrom bytes n (slice_split ends rest)) place h)
stands-next ends bytes start b rest e h false k =
    subst (StandsFrom bytes start) (sym (slice_split-cons_no ends b rest k)) (stands-onto_first bytes start b rest (slice_split ends rest) e (omega (arith, length-slice_split ends rest)) h)

stands-slice_split : (ends : ℕ → Bool) (bytes : List ℕ) (start : ℕ) (rest : List ℕ) → drop start bytes ≡ rest → StandsFrom bytes start (slice_split ends rest)
stands-slice_split ends bytes start [] e = (refl, tt)
stands-slice_split ends bytes start (b ∷ rest) e = stands-next ends bytes start b rest e (stands-slice_split ends bytes (start + 1) rest (next_rest bytes start b rest e)) (ends b) refl

part_is : (number start n : ℕ) (piece bytes : List ℕ) → take (length piece) (drop start bytes) ≡ piece → n ≤ length piece → part_of bytes (numbered_part number start n) ≡ take n piece
part_is number start n piece bytes e l =
    let size : start + n - start ≡ n = omega arith in
    ap (λ k. take k (drop start bytes)) size ∙ ap (take n) (sym (take-append-drop (length piece) (drop start bytes)))
    ∙ ap (λ front. take n (front ++ drop (length piece) (drop start bytes))) e ∙ take-append-le n piece (drop (length piece) (drop start bytes)) l

part_whole : (number start : ℕ) (piece bytes : List ℕ) → take (length piece) (drop start bytes) ≡ piece → part_of bytes (numbered_part number start (length piece)) ≡ piece
part_whole number start piece bytes e = part_is number start (length piece) piece bytes e (omega arith) ∙ take-length piece

front_kept : (cr : Bool) (text : List ℕ) → take (length (if cr then take (length text - 1) text else text)) text ≡ (if cr then take (length text - 1) text else text)
front_kept true text = let size : length (take (length text - 1) text) ≡ length text - 1 = omega (arith, length-take (length text - 1) text) in ap (λ n. take n text) size
front_kept false text = take-length text

part_stripped : (number start : ℕ) (piece bytes : List ℕ) → take (length piece) (drop start bytes) ≡ piece → part_of bytes (numbered_part number start (length (strip_carriage_return piece))) ≡ strip_carriage_return piece
part_stripped number start piece bytes e =
    part_is number start (length (strip_carriage_return piece)) piece bytes e (stripped_fits piece) ∙ front_kept (get_or piece (length piece - 1) 0 == 13) piece

same_cons : (x y : List ℕ) (xs ys : List (List ℕ)) → x ≡ y → xs ≡ ys → x ∷ xs ≡ y ∷ ys
same_cons x y xs ys e h = rw (e, h) refl

texts-lines_from : (number start : ℕ) (pieces : List (List ℕ)) (bytes : List ℕ) → StandsFrom bytes start pieces → map (part_of bytes) (lines_from number start pieces) ≡ lines_of_parts pieces
texts-lines_from number start [] bytes h = ap (map (part_of bytes)) (lines_from-none number start)
texts-lines_from number start ([] ∷ []) bytes h = ap (map (part_of bytes)) (lines_from-empty number start)
texts-lines_from number start ((b ∷ bs) ∷ []) bytes h =
    let some : (length (b ∷ bs) == 0) ≡ false = not_zero (length (b ∷ bs)) (omega arith) in
    ap (map (part_of bytes)) (lines_from-open number start (b ∷ bs) (omega arith))
    ∙ same_cons (part_of bytes (numbered_part number start (length (b ∷ bs)))) (b ∷ bs) [] [] (part_whole number start (b ∷ bs) bytes h.0) refl
    ∙ ap (λ empty. if empty then [] else (b ∷ bs) ∷ []) (sym some)
texts-lines_from number start (piece ∷ next ∷ pieces) bytes h =
    ap (map (part_of bytes)) (lines_from-ended number start piece (next ∷ pieces) (omega arith))
    ∙ same_cons (part_of bytes (numbered_part number start (length (strip_carriage_return piece)))) (strip_carriage_return piece) (map (part_of bytes) (lines_from (number + 1) (start + length piece + 1) (next ∷ pieces))) (lines_of_parts (next ∷ pieces)) (part_stripped number start piece bytes h.0) (texts-lines_from (number + 1) (start + length piece + 1) (next ∷ pieces) bytes h.1)

texts-tokens_from : (start : ℕ) (pieces : List (List ℕ)) (text : List ℕ) → StandsFrom text start pieces → map (token_text text) (tokens_from start pieces) ≡ filter has_bytes pieces
texts-tokens_from start [] text h = ap (map (token_text text)) (tokens_from-none start)
texts-tokens_from start ([] ∷ pieces) text h =
    let place : start + 0 + 1 ≡ start + 1 = omega arith in
    ap (map (token_text text)) (tokens_from-empty start pieces) ∙ texts-tokens_from (start + 1) pieces text (subst (λ n. StandsFrom text n pieces) place h.1)
texts-tokens_from start ((b ∷ bs) ∷ pieces) text h =
    let some : (length (b ∷ bs) == 0) ≡ false = not_zero (length (b ∷ bs)) (omega arith) in
    ap (map (token_text text)) (tokens_from-some start (b ∷ bs) pieces (omega arith))
    ∙ same_cons (token_text text (token_at start (length (b ∷ bs)))) (b ∷ bs) (map (token_text text) (tokens_from (start + length (b ∷ bs) + 1) pieces)) (filter has_bytes pieces) (part_whole 0 start (b ∷ bs) text h.0) (texts-tokens_from (start + length (b ∷ bs) + 1) pieces text h.1)
    ∙ ap (λ empty. if not empty then (b ∷ bs) ∷ filter has_bytes pieces else filter has_bytes pieces) (sym some)

pub texts-lines_of : (bytes : List ℕ) → map (part_of bytes) (lines_of bytes) ≡ texts_of bytes
texts-lines_of bytes = texts-lines_from 1 0 (slice_split is_line_feed bytes) bytes (stands-slice_split is_line_feed bytes 0 bytes refl)

pub texts-tokens_of : (text : List ℕ) → map (token_text text) (tokens_of text) ≡ token_texts_of text
texts-tokens_of text = texts-tokens_from 0 (slice_split is_blank text) text (stands-slice_split is_blank text 0 text refl)
