-- The first line, and the first token, of what is left.
use Rattle.std.proofs.Common.{◌≡◌, ℕ, ◌+◌, ◌-◌, ◌<◌, Bool, true, false, ◌==◌, not, List, [], ◌∷◌, ◌++◌, ◌≤◌, length, get_or, take, drop, refl, ap, sym, ◌∙◌, append_assoc, arith, length-take, length-drop, if◌then◌else◌, All}
use Rattle.std.proofs.lemmas.List.{append-nil, take-append-drop, drop-drop, drop_more, drop_all, take_all, get_or-drop}
use Rattle.std.proofs.lemmas.List.Folds.{list_all_more}
use Rattle.std.proofs.lemmas.List.Sums.{AllPass-from_list_all}
use Rattle.std.proofs.lemmas.List.Splits.{slice_split_at, slice_split_none, slice_split-cons_yes, length-slice_split}
use Rattle.std.specs.List.{list_all, slice_split}
use Rattle.std.specs.Str.Lines.{strip_carriage_return}
use Rattle.std.proofs.lemmas.Bool.Decides.{nat_tests}
use Rattle.std.proofs.lemmas.Grind.{common_steps}
use Rattle.lvdc_text.specs.declared.cutting.Line.{Line}
use Rattle.lvdc_text.specs.declared.cutting.Token.{Token}
use Rattle.lvdc_text.specs.Lines.{numbered_part, is_line_feed, lines_from, is_blank, token_at, tokens_from, tokens_left}

-- whether the byte doesn't end a part
abbrev pub goes_on : (ℕ → Bool) → ℕ → Bool
goes_on ends b = not (ends b)

not_true : (a : Bool) → not a ≡ true → a ≡ false
not_true true h = absurd (cc)
not_true false h = refl

ends_nowhere : (ends : ℕ → Bool) (text : List ℕ) → list_all (goes_on ends) text ≡ true → All (λ b. ends b ≡ false) text
ends_nowhere ends text h = λ k d l. not_true (ends (get_or text k d)) (AllPass-from_list_all (goes_on ends) text h k d l)

some_piece : (ends : ℕ → Bool) (text : List ℕ) → 0 < length (slice_split ends text)
some_piece ends text = omega (arith, length-slice_split ends text)

pub not_zero : (n : ℕ) → 0 < n → (n == 0) ≡ false
not_zero n l = grind (arith, nat_tests)

pub lines_from-ended : (number start : ℕ) (piece : List ℕ) (pieces : List (List ℕ)) → 0 < length pieces
    → lines_from number start (piece ∷ pieces) ≡ numbered_part number start (length (strip_carriage_return piece)) ∷ lines_from (number + 1) (start + length piece + 1) pieces
unfolding lines_from
lines_from-ended number start piece [] l = absurd (omega arith)
lines_from-ended number start piece (next ∷ pieces) l = refl

pub lines_from-open : (number start : ℕ) (piece : List ℕ) → 0 < length piece → lines_from number start (piece ∷ []) ≡ numbered_part number start (length piece) ∷ []
unfolding lines_from
lines_from-open number start piece l = ap (λ empty. if empty then [] else numbered_part number start (length piece) ∷ []) (not_zero (length piece) l)

pub lines_from-none : (number start : ℕ) → lines_from number start [] ≡ []
unfolding lines_from
lines_from-none number start = refl

pub lines_from-empty : (number start : ℕ) → lines_from number start ([] ∷ []) ≡ []
unfolding lines_from
lines_from-empty number start = refl

-- a line that LF ends
pub first_line : (number start : ℕ) (text rest : List ℕ) → All (λ b. is_line_feed b ≡ false) text
    → lines_from number start (slice_split is_line_feed (text ++ 10 ∷ rest)) ≡ numbered_part number start (length (strip_carriage_return text)) ∷ lines_from (number + 1) (start + length text + 1) (slice_split is_line_feed rest)
first_line number start text rest h =
    ap (lines_from number start) (slice_split_at is_line_feed text 10 rest h refl) ∙ lines_from-ended number start text (slice_split is_line_feed rest) (some_piece is_line_feed rest)

-- a line that nothing ends
pub last_line : (number start : ℕ) (text : List ℕ) → All (λ b. is_line_feed b ≡ false) text → 0 < length text
    → lines_from number start (slice_split is_line_feed text) ≡ numbered_part number start (length text) ∷ []
last_line number start text h l = ap (lines_from number start) (slice_split_none is_line_feed text h) ∙ lines_from-open number start text l

pub tokens_from-empty : (start : ℕ) (pieces : List (List ℕ)) → tokens_from start ([] ∷ pieces) ≡ tokens_from (start + 1) pieces
unfolding tokens_from
tokens_from-empty start pieces = refl

pub tokens_from-none : (start : ℕ) → tokens_from start [] ≡ []
unfolding tokens_from
tokens_from-none start = refl

pub tokens_from-some : (start : ℕ) (piece : List ℕ) (pieces : List (List ℕ)) → 0 < length piece
    → tokens_from start (piece ∷ pieces) ≡ token_at start (length piece) ∷ tokens_from (start + length piece + 1) pieces
unfolding tokens_from
tokens_from-some start piece pieces l =
    ap (λ empty. if empty then tokens_from (start + 1) pieces else token_at start (length piece) ∷ tokens_from (start + length piece + 1) pieces) (not_zero (length piece) l)

-- a blank is passed over
pub blank_first : (start b : ℕ) (rest : List ℕ) → is_blank b ≡ true → tokens_from start (slice_split is_blank (b ∷ rest)) ≡ tokens_from (start + 1) (slice_split is_blank rest)
blank_first start b rest h = ap (tokens_from start) (slice_split-cons_yes is_blank b rest h) ∙ tokens_from-empty start (slice_split is_blank rest)

-- a token that a blank ends
pub first_token : (start b : ℕ) (text rest : List ℕ) → All (λ b. is_blank b ≡ false) text → 0 < length text → is_blank b ≡ true
    → tokens_from start (slice_split is_blank (text ++ b ∷ rest)) ≡ token_at start (length text) ∷ tokens_from (start + length text + 1) (slice_split is_blank rest)
first_token start b text rest h l k =
    ap (tokens_from start) (slice_split_at is_blank text b rest h k) ∙ tokens_from-some start text (slice_split is_blank rest) l

-- a token that nothing ends
pub last_token : (start : ℕ) (text : List ℕ) → All (λ b. is_blank b ≡ false) text → 0 < length text
    → tokens_from start (slice_split is_blank text) ≡ token_at start (length text) ∷ []
last_token start text h l =
    ap (tokens_from start) (slice_split_none is_blank text h) ∙ tokens_from-some start text [] l
    ∙ ap (λ rest. token_at start (length text) ∷ rest) (tokens_from-none (start + length text + 1))

-- the bytes up to this place, and from it
cut_at : (start at : ℕ) (bytes : List ℕ) → start ≤ at → at < length bytes
    → drop start bytes ≡ take (at - start) (drop start bytes) ++ (get_or bytes at 0 ∷ drop (at + 1) bytes)
cut_at start at bytes o l =
    let place : start + (at - start) ≡ at = omega arith in
    sym (take-append-drop (at - start) (drop start bytes))
    ∙ ap (λ rest. take (at - start) (drop start bytes) ++ rest) (drop-drop (at - start) start bytes ∙ ap (λ n. drop n bytes) place ∙ drop_more bytes at 0 l)

cut_length : (start at : ℕ) (bytes : List ℕ) → start ≤ at → at ≤ length bytes → length (take (at - start) (drop start bytes)) ≡ at - start
cut_length start at bytes o l = omega (arith, length-take (at - start) (drop start bytes), length-drop start bytes)

-- one more byte that doesn't end the part
pub one_more : (p : ℕ → Bool) (start at : ℕ) (bytes : List ℕ) → start ≤ at → at < length bytes → list_all p (take (at - start) (drop start bytes)) ≡ true → p (get_or bytes at 0) ≡ true
    → list_all p (take (at + 1 - start) (drop start bytes)) ≡ true
one_more p start at bytes o l h k =
    let place : start + (at - start) ≡ at = omega arith in
    let next : at + 1 - start ≡ at - start + 1 = omega arith in
    let within : at - start < length (drop start bytes) = omega (arith, length-drop start bytes) in
    ap (λ n. list_all p (take n (drop start bytes))) next
    ∙ list_all_more p (drop start bytes) (at - start) 0 within
    ∙ rw (h, get_or-drop start bytes (at - start) 0, place) k

-- nothing in hand
pub none_more : (p : ℕ → Bool) (at : ℕ) (rest : List ℕ) → list_all p (take (at - at) rest) ≡ true
none_more p at rest = let none : at - at ≡ 0 = omega arith in rw none refl

-- LF ends the line in hand
pub line_ended : (number start at : ℕ) (bytes : List ℕ) (lines all : List Line) → start ≤ at → at < length bytes → list_all (goes_on is_line_feed) (take (at - start) (drop start bytes)) ≡ true → get_or bytes at 0 ≡ 10
    → lines ++ lines_from number start (slice_split is_line_feed (drop start bytes)) ≡ all
    → (lines ++ numbered_part number start (length (strip_carriage_return (take (at - start) (drop start bytes)))) ∷ []) ++ lines_from (number + 1) (at + 1) (slice_split is_line_feed (drop (at + 1) bytes)) ≡ all
line_ended number start at bytes lines all o l h k e =
    let text = take (at - start) (drop start bytes) in
    let size = cut_length start at bytes o (omega arith) in
    let place : start + length (take (at - start) (drop start bytes)) + 1 ≡ at + 1 = omega arith in
    let cut : drop start bytes ≡ text ++ (10 ∷ drop (at + 1) bytes) = cut_at start at bytes o l ∙ ap (λ b. text ++ (b ∷ drop (at + 1) bytes)) k in
    let first = ap (λ bs. lines_from number start (slice_split is_line_feed bs)) cut ∙ first_line number start text (drop (at + 1) bytes) (ends_nowhere is_line_feed text h)
    ∙ ap (λ n. numbered_part number start (length (strip_carriage_return text)) ∷ lines_from (number + 1) n (slice_split is_line_feed (drop (at + 1) bytes))) place in
    append_assoc lines _ _ ∙ ap (λ rest. lines ++ rest) (sym first) ∙ e

rest_length : (start : ℕ) (bytes : List ℕ) → start < length bytes → start + length (drop start bytes) ≡ length bytes
rest_length start bytes l = omega (arith, length-drop start bytes)

-- what ends nowhere up to the end
rest_whole : (p : ℕ → Bool) (start : ℕ) (bytes : List ℕ) → list_all p (take (length bytes - start) (drop start bytes)) ≡ true → list_all p (drop start bytes) ≡ true
rest_whole p start bytes h = ap (list_all p) (sym (take_all (length bytes - start) (drop start bytes) (omega (arith, length-drop start bytes)))) ∙ h

-- the part that goes up to the end
part_to_end : (number start : ℕ) (bytes : List ℕ) → start < length bytes → numbered_part number start (length (drop start bytes)) ≡ record { number = number; start = start; end = length bytes }
part_to_end number start bytes l = ap (λ n. record { number = number; start = start; end = n }) (rest_length start bytes l)

-- nothing ends the last line
pub line_open : (number start : ℕ) (bytes : List ℕ) (lines all : List Line) → start < length bytes → list_all (goes_on is_line_feed) (take (length bytes - start) (drop start bytes)) ≡ true
    → lines ++ lines_from number start (slice_split is_line_feed (drop start bytes)) ≡ all
    → lines ++ record { number = number; start = start; end = length bytes } ∷ [] ≡ all
line_open number start bytes lines all l h e =
    let some : 0 < length (drop start bytes) = omega (arith, length-drop start bytes) in
    let last = last_line number start (drop start bytes) (ends_nowhere is_line_feed (drop start bytes) (rest_whole (goes_on is_line_feed) start bytes h)) some in
    ap (λ rest. lines ++ rest) (sym (last ∙ ap (λ line. line ∷ []) (part_to_end number start bytes l))) ∙ e

-- no line is left
pub no_line : (number start : ℕ) (bytes : List ℕ) (lines all : List Line) → length bytes ≤ start → lines ++ lines_from number start (slice_split is_line_feed (drop start bytes)) ≡ all → lines ≡ all
no_line number start bytes lines all l e =
    sym (append-nil lines) ∙ ap (λ rest. lines ++ rest) (sym (ap (λ bs. lines_from number start (slice_split is_line_feed bs)) (drop_all start bytes l) ∙ lines_from-empty number start)) ∙ e

-- a blank is passed over
pub blank_skipped : (at : ℕ) (text : List ℕ) → at < length text → is_blank (get_or text at 0) ≡ true → tokens_left at text ≡ tokens_left (at + 1) text
blank_skipped at text l k =
    ap (λ bs. tokens_from at (slice_split is_blank bs)) (drop_more text at 0 l) ∙ blank_first at (get_or text at 0) (drop (at + 1) text) k

-- no token is left at the end
pub none_left : (at : ℕ) (text : List ℕ) → length text ≤ at → tokens_left at text ≡ []
none_left at text l =
    ap (λ bs. tokens_from at (slice_split is_blank bs)) (drop_all at text l) ∙ tokens_from-empty at [] ∙ tokens_from-none (at + 1)

-- a blank ends the token in hand
pub token_ended : (start at : ℕ) (text : List ℕ) → start < at → at < length text → list_all (goes_on is_blank) (take (at - start) (drop start text)) ≡ true → is_blank (get_or text at 0) ≡ true
    → tokens_left start text ≡ record { start = start; end = at } ∷ tokens_left at text
token_ended start at text o l h k =
    let token = take (at - start) (drop start text) in
    let size = cut_length start at text (omega arith) (omega arith) in
    let place : start + length (take (at - start) (drop start text)) ≡ at = omega arith in
    ap (λ bs. tokens_from start (slice_split is_blank bs)) (cut_at start at text (omega arith) l)
    ∙ first_token start (get_or text at 0) token (drop (at + 1) text) (ends_nowhere is_blank token h) (omega arith) k
    ∙ ap (λ n. record { start = start; end = n } ∷ tokens_from (n + 1) (slice_split is_blank (drop (at + 1) text))) place
    ∙ ap (λ ts. record { start = start; end = at } ∷ ts) (sym (blank_skipped at text l k))

-- nothing ends the last token
pub token_open : (start : ℕ) (text : List ℕ) → start < length text → list_all (goes_on is_blank) (take (length text - start) (drop start text)) ≡ true
    → tokens_left start text ≡ record { start = start; end = length text } ∷ tokens_left (length text) text
token_open start text l h =
    let some : 0 < length (drop start text) = omega (arith, length-drop start text) in
    last_token start (drop start text) (ends_nowhere is_blank (drop start text) (rest_whole (goes_on is_blank) start text h)) some
    ∙ ap (λ n. record { start = start; end = n } ∷ []) (rest_length start text l)
    ∙ ap (λ ts. record { start = start; end = length text } ∷ ts) (sym (none_left (length text) text (omega arith)))

-- one more token
pub tokens_more : (tokens all : List Token) (token : Token) (left later : List Token) → tokens ++ left ≡ all → left ≡ token ∷ later → (tokens ++ token ∷ []) ++ later ≡ all
tokens_more tokens all token left later e is = append_assoc tokens (token ∷ []) later ∙ ap (λ ts. tokens ++ ts) (sym is) ∙ e

-- all tokens
pub tokens_done : (tokens all left : List Token) → tokens ++ left ≡ all → left ≡ [] → tokens ≡ all
tokens_done tokens all left e is = sym (append-nil tokens) ∙ ap (λ ts. tokens ++ ts) (sym is) ∙ e

-- a CR at the end is stripped
pub strip-cr : (text front : List ℕ) (last : ℕ) → text ≡ front ++ last ∷ [] → last ≡ 13 → length front ≡ length (strip_carriage_return text)
strip-cr text front last e k =
    let at_end : get_or text (length text - 1) 0 ≡ 13 = grind (arith, common_steps) in
    let kept : take (length text - 1) text ≡ front = grind (arith, common_steps) in
    ap length (sym kept) ∙ ap (λ cr. length (if cr then take (length text - 1) text else text)) (sym (ap (λ b. b == 13) at_end))

-- without one all is kept
pub strip-other : (text front : List ℕ) (last : ℕ) → text ≡ front ++ last ∷ [] → (last ≡ 13 → ⊥) → length text ≡ length (strip_carriage_return text)
strip-other text front last e k =
    let at_end : get_or text (length text - 1) 0 ≡ last = grind (arith, common_steps) in
    let other : (last == 13) ≡ false = grind (arith, nat_tests) in
    ap (λ cr. length (if cr then take (length text - 1) text else text)) (sym (ap (λ b. b == 13) at_end ∙ other))
