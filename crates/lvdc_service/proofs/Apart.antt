-- Frames mean the same whatever follows them.
use Rattle.std.proofs.Common.{◌≡◌, ℕ, suc, zero, ◌-◌, Bool, true, false, List, [], ◌∷◌, ◌++◌, length, take, drop, Some, None, refl, sym, ap, ◌∙◌, subst, arith, length-append, if◌then◌else◌}
use Rattle.std.specs.Prelude.{nat_le}
use Rattle.std.specs.declared.option.Option.{Option}
use Rattle.std.proofs.lemmas.Bool.{false≢true}
use Rattle.std.proofs.lemmas.Bool.Decides.{nat_tests}
use Rattle.std.proofs.lemmas.List.{take-append-le, drop-append-le}
use Rattle.lvdc_text.specs.Lines.{is_line_feed}
use Rattle.lvdc_service.specs.Frames.{FrameLine, frame_line_of, Cut, with_byte, cut_line, longest_line, Framed, framed_by, framed_behind, frame_at, Frames, with_request, with_requests, frames_within}
use Rattle.lvdc_service.proofs.CutLines.{cut_open}
use Rattle.lvdc_service.proofs.Following.{frames_first, frames_none, frames_nothing, frames_no_more}

-- ---- a line

-- more bytes behind those that follow
abbrev cut_then : Option Cut → List ℕ → Option Cut
cut_then None more = None
cut_then (Some cut) more = Some (record { front = cut.front; rest = cut.rest ++ more })

abbrev HasCut : Option Cut → Type 0
HasCut None = ⊥
HasCut (Some cut) = Unit {0}

with_byte_then : (b : ℕ) (c : Option Cut) (more : List ℕ) → with_byte b (cut_then c more) ≡ cut_then (with_byte b c) more
with_byte_then b None more = refl
with_byte_then b (Some cut) more = refl

cut_below : (b : ℕ) (c : Option Cut) → HasCut (with_byte b c) → HasCut c
cut_below b None h = h
cut_below b (Some cut) h = tt

-- what is cut, by whether the first byte is an LF
abbrev cut_by : Bool → ℕ → List ℕ → Option Cut → Option Cut
cut_by ends b bytes c = if ends then Some (record { front = []; rest = bytes }) else with_byte b c

cut_more : (most b : ℕ) (bytes : List ℕ) → cut_line (suc most) (b ∷ bytes) ≡ cut_by (is_line_feed b) b bytes (cut_line most bytes)
unfolding cut_line
cut_more most b bytes = refl

cut_last : (b : ℕ) (bytes : List ℕ) → cut_line 0 (b ∷ bytes) ≡ cut_by (is_line_feed b) b bytes None
unfolding cut_line
cut_last b bytes = refl

cut_by_then : (ends : Bool) (b : ℕ) (bytes more : List ℕ) (c longer : Option Cut) → (HasCut c → longer ≡ cut_then c more) → HasCut (cut_by ends b bytes c)
    → cut_by ends b (bytes ++ more) longer ≡ cut_then (cut_by ends b bytes c) more
cut_by_then true b bytes more c longer h has = refl
cut_by_then false b bytes more c longer h has = ap (with_byte b) (h (cut_below b c has)) ∙ with_byte_then b c more

-- where a line ends, it ends there whatever follows
line_ends : (most : ℕ) (bytes more : List ℕ) → HasCut (cut_line most bytes) → cut_line most (bytes ++ more) ≡ cut_then (cut_line most bytes) more
line_ends most [] more h = absurd (subst HasCut (cut_open most [] tt) h)
line_ends zero (b ∷ bytes) more h =
    cut_last b (bytes ++ more)
    ∙ cut_by_then (is_line_feed b) b bytes more None None (λ none. absurd none) (subst HasCut (cut_last b bytes) h)
    ∙ ap (λ (c : Option Cut). cut_then c more) (sym (cut_last b bytes))
line_ends (suc most) (b ∷ bytes) more h =
    cut_more most b (bytes ++ more)
    ∙ cut_by_then (is_line_feed b) b bytes more (cut_line most bytes) (cut_line most (bytes ++ more)) (line_ends most bytes more) (subst HasCut (cut_more most b bytes) h)
    ∙ ap (λ (c : Option Cut). cut_then c more) (sym (cut_more most b bytes))

-- ---- a frame

abbrev framed_then : Option Framed → List ℕ → Option Framed
framed_then None more = None
framed_then (Some framed) more = Some (record { request = framed.request; rest = framed.rest ++ more })

abbrev HasFrame : Option Framed → Type 0
HasFrame None = ⊥
HasFrame (Some framed) = Unit {0}

abbrev framed_if : Bool → List (List ℕ) → List ℕ → List ℕ → Option Framed
framed_if whole words input rest = if whole then Some (record { request = record { words = words; input = input }; rest = rest }) else None

if_then : (whole longer : Bool) (words : List (List ℕ)) (input rest input_longer rest_longer more : List ℕ) → HasFrame (framed_if whole words input rest)
    → (whole ≡ true → longer ≡ true) → (whole ≡ true → input_longer ≡ input) → (whole ≡ true → rest_longer ≡ rest ++ more)
    → framed_if longer words input_longer rest_longer ≡ framed_then (framed_if whole words input rest) more
if_then false longer words input rest input_longer rest_longer more has l i r = absurd has
if_then true longer words input rest input_longer rest_longer more has l i r = rw (l refl, i refl, r refl) refl

by_then : (line : Option FrameLine) (rest more : List ℕ) → HasFrame (framed_by line rest) → framed_by line (rest ++ more) ≡ framed_then (framed_by line rest) more
by_then None rest more h = absurd h
by_then (Some line) rest more h =
    if_then (nat_le line.count (length rest)) (nat_le line.count (length (rest ++ more))) line.words (take line.count rest) (drop line.count rest)
    (take line.count (rest ++ more)) (drop line.count (rest ++ more)) more h
    (λ whole. let size = length-append rest more in grind (arith, nat_tests))
    (λ whole. take-append-le line.count rest more (grind (arith, nat_tests)))
    (λ whole. drop-append-le line.count rest more (grind (arith, nat_tests)))

behind_then : (c : Option Cut) (longer : Option Cut) (more : List ℕ) → (HasCut c → longer ≡ cut_then c more) → HasFrame (framed_behind c)
    → framed_behind longer ≡ framed_then (framed_behind c) more
behind_then None longer more h has = absurd has
behind_then (Some cut) longer more h has = ap framed_behind (h tt) ∙ by_then (frame_line_of cut.front) cut.rest more has

-- a frame is the same one whatever follows
pub frame_ends : (bytes more : List ℕ) → HasFrame (frame_at bytes) → frame_at (bytes ++ more) ≡ framed_then (frame_at bytes) more
unfolding frame_at
frame_ends bytes more h = behind_then (cut_line longest_line bytes) (cut_line longest_line (bytes ++ more)) more (line_ends longest_line bytes more) h

-- ---- frames

abbrev Apart : ℕ → List ℕ → List ℕ → Frames → Type 0
Apart most bytes more frames = frames.whole ≡ true
    → frames_within most (bytes ++ more) ≡ with_requests frames.requests (frames_within (most - length frames.requests) more)

first_apart : (most b : ℕ) (bytes more : List ℕ) (found : Option Framed) → frame_at (b ∷ bytes) ≡ found
    → ((rest : List ℕ) → Apart most rest more (frames_within most rest)) → Apart (suc most) (b ∷ bytes) more (frames_within (suc most) (b ∷ bytes))
first_apart most b bytes more None e later = λ whole.
    absurd (false≢true (ap (λ (f : Frames). f.whole) (sym (frames_none most (b ∷ bytes) (omega arith) e)) ∙ whole))
first_apart most b bytes more (Some framed) e later = λ whole.
    let first : frames_within (suc most) (b ∷ bytes) ≡ with_request framed.request (frames_within most framed.rest) = frames_first most (b ∷ bytes) framed.request framed.rest e in
    let rest_whole : (frames_within most framed.rest).whole ≡ true = ap (λ (f : Frames). f.whole) (sym first) ∙ whole in
    let longer : frame_at ((b ∷ bytes) ++ more) ≡ Some (record { request = framed.request; rest = framed.rest ++ more }) =
    frame_ends (b ∷ bytes) more (subst HasFrame (sym e) tt) ∙ ap (λ (f : Option Framed). framed_then f more) e in
    let found = with_request framed.request (frames_within most framed.rest) in
    let left : suc most - length found.requests ≡ most - length (frames_within most framed.rest).requests = omega arith in
    frames_first most ((b ∷ bytes) ++ more) framed.request (framed.rest ++ more) longer
    ∙ ap (with_request framed.request) (later framed.rest rest_whole)
    ∙ ap (λ n. with_requests found.requests (frames_within n more)) (sym left)
    ∙ ap (λ (f : Frames). with_requests f.requests (frames_within (suc most - length f.requests) more)) (sym first)

pub apart : (most : ℕ) (bytes more : List ℕ) → (frames_within most bytes).whole ≡ true
    → frames_within most (bytes ++ more) ≡ with_requests (frames_within most bytes).requests (frames_within (most - length (frames_within most bytes).requests) more)
apart zero bytes more whole =
    frames_no_more (bytes ++ more)
    ∙ sym (ap (λ (f : Frames). with_requests f.requests (frames_within (0 - length f.requests) more)) (frames_no_more bytes)
    ∙ ap (with_requests []) (frames_no_more more))
apart (suc most) [] more whole =
    let left : suc most - 0 ≡ suc most = omega arith in
    ap (λ n. frames_within n more) (sym left)
    ∙ ap (λ (f : Frames). with_requests f.requests (frames_within (suc most - length f.requests) more)) (sym (frames_nothing (suc most)))
apart (suc most) (b ∷ bytes) more whole = first_apart most b bytes more (frame_at (b ∷ bytes)) refl (λ rest. apart most rest more) whole
