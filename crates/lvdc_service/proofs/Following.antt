-- What bytes mean as frames, by the first one.
use Rattle.std.proofs.Common.{◌≡◌, ℕ, suc, zero, ◌<◌, ◌≤◌, true, false, List, [], ◌∷◌, ◌++◌, length, take, drop, Some, None, refl, ap, ◌∙◌, append_assoc, arith, length-append, if◌then◌else◌}
use Rattle.std.specs.Prelude.{nat_le}
use Rattle.std.specs.declared.option.Option.{Option}
use Rattle.std.proofs.lemmas.Bool.Decides.{nat_tests}
use Rattle.std.proofs.lemmas.List.{take_at, drop_at}
use Rattle.lvdc_service.specs.Frames.{FrameLine, frame_line_of, Request, Cut, cut_line, longest_line, Framed, framed_by, framed_behind, frame_at, with_request, no_request, first_then, frames_within}
use Rattle.lvdc_service.proofs.CutLines.{cut_open}

-- ---- a frame

at_cut : (bytes : List ℕ) (cut : Option Cut) → cut_line longest_line bytes ≡ cut → frame_at bytes ≡ framed_behind cut
unfolding frame_at
at_cut bytes cut e = ap framed_behind e

-- no line ends
pub frame_open : (bytes : List ℕ) → cut_line longest_line bytes ≡ None → frame_at bytes ≡ None
frame_open bytes e = at_cut bytes None e

nothing_cut : cut_line longest_line [] ≡ None
nothing_cut = cut_open longest_line [] tt

pub frame_nothing : frame_at [] ≡ None
frame_nothing = frame_open [] nothing_cut

behind_line : (line input more : List ℕ) → ((line ++ 10 ∷ []) ++ input) ++ more ≡ line ++ 10 ∷ (input ++ more)
behind_line line input more = append_assoc (line ++ 10 ∷ []) input more ∙ append_assoc line (10 ∷ []) (input ++ more)

abbrev IsCutAt : List ℕ → Type 0
IsCutAt line = (more : List ℕ) → cut_line longest_line (line ++ 10 ∷ more) ≡ Some (record { front = line; rest = more })

at_line : (line rest : List ℕ) (said : Option FrameLine) → IsCutAt line → frame_line_of line ≡ said → frame_at (line ++ 10 ∷ rest) ≡ framed_by said rest
at_line line rest said cut e = at_cut (line ++ 10 ∷ rest) (Some (record { front = line; rest = rest })) (cut rest) ∙ ap (λ s. framed_by s rest) e

-- the line is none of a frame
pub frame_misread : (line rest : List ℕ) → IsCutAt line → frame_line_of line ≡ None → frame_at ((line ++ 10 ∷ []) ++ rest) ≡ None
frame_misread line rest cut e = ap frame_at (append_assoc line (10 ∷ []) rest) ∙ at_line line rest None cut e

-- the bytes end in the input
pub frame_short : (line input : List ℕ) (count : ℕ) (words : List (List ℕ)) → IsCutAt line → frame_line_of line ≡ Some (record { count = count; words = words })
    → length input < count → frame_at ((line ++ 10 ∷ []) ++ input) ≡ None
frame_short line input count words cut e l =
    let short : nat_le count (length input) ≡ false = grind (arith, nat_tests) in
    ap frame_at (append_assoc line (10 ∷ []) input) ∙ at_line line input (Some (record { count = count; words = words })) cut e
    ∙ ap (λ whole. if whole then Some (record { request = record { words = words; input = take count input }; rest = drop count input }) else None) short

abbrev framed : List (List ℕ) → List ℕ → List ℕ → Framed
framed words input rest = record { request = record { words = words; input = input }; rest = rest }

framed_is : (words : List (List ℕ)) (input rest front later : List ℕ) → front ≡ input → later ≡ rest → Some (framed words front later) ≡ Some (framed words input rest)
framed_is words input rest front later e f = rw (e, f) refl

-- the whole frame, whatever follows it
pub frame_read : (line input more : List ℕ) (count : ℕ) (words : List (List ℕ)) → IsCutAt line → frame_line_of line ≡ Some (record { count = count; words = words })
    → length input ≡ count → frame_at (((line ++ 10 ∷ []) ++ input) ++ more) ≡ Some (record { request = record { words = words; input = input }; rest = more })
frame_read line input more count words cut e l =
    let fits : count ≤ length (input ++ more) = omega (arith, length-append input more) in
    let whole : nat_le count (length (input ++ more)) ≡ true = grind (arith, nat_tests) in
    ap frame_at (behind_line line input more) ∙ at_line line (input ++ more) (Some (record { count = count; words = words })) cut e
    ∙ ap (λ w. if w then Some (framed words (take count (input ++ more)) (drop count (input ++ more))) else None) whole
    ∙ framed_is words input more (take count (input ++ more)) (drop count (input ++ more)) (take_at input more count l) (drop_at input more count l)

-- ---- frames

pub frames_nothing : (most : ℕ) → frames_within most [] ≡ no_request true
unfolding frames_within
frames_nothing zero = refl
frames_nothing (suc most) = refl

pub frames_no_more : (bytes : List ℕ) → frames_within 0 bytes ≡ no_request true
unfolding frames_within
frames_no_more bytes = refl

pub frames_first : (most : ℕ) (bytes : List ℕ) (request : Request) (rest : List ℕ) → frame_at bytes ≡ Some (record { request = request; rest = rest })
    → frames_within (suc most) bytes ≡ with_request request (frames_within most rest)
unfolding frames_within
frames_first most [] request rest e = absurd (cc frame_nothing)
frames_first most (b ∷ bytes) request rest e = ap (λ f. first_then f (frames_within most)) e

pub frames_none : (most : ℕ) (bytes : List ℕ) → 0 < length bytes → frame_at bytes ≡ None → frames_within (suc most) bytes ≡ no_request false
unfolding frames_within
frames_none most [] l e = absurd (omega arith)
frames_none most (b ∷ bytes) l e = ap (λ f. first_then f (frames_within most)) e
