-- The lines from CAMPAIGN on are the last ones, and those before them are the lines of the bytes before it.
use Rattle.std.proofs.Common.{◌≡◌, ℕ, ◌+◌, ◌-◌, ◌<◌, ◌≤◌, nat_lt, Bool, true, false, List, [], ◌∷◌, ◌++◌, length, take, drop, refl, ap, sym, ◌∙◌, append_assoc, arith, length-append, length-take, length-drop, get_or, subst, codes, All, Option, None, Some, if◌then◌else◌}
use Rattle.std.proofs.Math.Seq.{drop-append_seam}
use Rattle.std.proofs.lemmas.List.{append-nil, take-append-drop, drop-take, take-take, get_or-take}
use Rattle.std.proofs.lemmas.List.Quantifiers.{position-Some}
use Rattle.std.proofs.lemmas.List.Sums.{position_or_len_is}
use Rattle.std.proofs.lemmas.Bool.Decides.{nat_tests}
use Rattle.std.specs.List.{position_or_len}
use Rattle.std.proofs.lemmas.List.Elements.{All-take, All-drop}
use Rattle.lvdc_text.specs.Headings.{is_alone}
use Rattle.lvdc_text.specs.Lines.{lines_of, part_of, IsWithin}
use Rattle.lvdc_text.specs.declared.cutting.Line.{Line}
use Rattle.lvdc_text.proofs.Bounds.{lines_of-within}
use Rattle.lvdc_text.proofs.LinesBefore.{lines_before}
use Rattle.lvdc_deck.specs.Deck.{lines_after, after_program, end_of}
use Rattle.lvdc_campaign_deck.specs.Campaign.{is_campaign, from_campaign}
use Rattle.lvdc_campaign_deck.proofs.Steps.{no_line}

-- these lines are the last ones of all
record AreLast (last all : List Line) : Type 0 where
  pub front : List Line
  pub is : all ≡ front ++ last

one-before : (line : Line) (last all : List Line) → AreLast last all → AreLast last (line ∷ all)
one-before line last all l = record { front = line ∷ l.front; is = ap (λ ls. line ∷ ls) l.is }

last-of-last : (last later all : List Line) → AreLast last later → AreLast later all → AreLast last all
last-of-last last later all a b =
    record { front = b.front ++ a.front; is = b.is ∙ ap (λ ls. b.front ++ ls) a.is ∙ sym (append_assoc b.front a.front last) }

after-last : (lines : List Line) (at : Option ℕ) → AreLast (lines_after lines at) lines
after-last lines None = record { front = lines; is = sym (append-nil lines) }
after-last lines (Some at) = record { front = take (at + 1) lines; is = sym (take-append-drop (at + 1) lines) }

from-by : (line : Line) (from lines : List Line) (v : Bool) → AreLast from lines → AreLast (if v then line ∷ lines else from) (line ∷ lines)
from-by line from lines true l = record { front = []; is = refl }
from-by line from lines false l = one-before line from lines l

from-last : (bytes : List ℕ) (lines : List Line) → AreLast (from_campaign bytes lines) lines
unfolding from_campaign
from-last bytes [] = record { front = []; is = refl }
from-last bytes (line ∷ lines) = from-by line (from_campaign bytes lines) lines (is_campaign (part_of bytes line)) (from-last bytes lines)

are-last : (bytes : List ℕ) (lines : List Line) → AreLast (from_campaign bytes (after_program bytes lines)) lines
are-last bytes lines =
    last-of-last (from_campaign bytes (after_program bytes lines)) (after_program bytes lines) lines
    (from-last bytes (after_program bytes lines)) (after-last lines (end_of bytes lines))

from-nothing : (bytes : List ℕ) → from_campaign bytes [] ≡ []
unfolding from_campaign
from-nothing bytes = refl

fewer : (last all : List Line) → AreLast last all → length last ≤ length all
fewer last all l = omega (arith, ap length l.is, length-append l.front last)

behind : (last all : List Line) → AreLast last all → drop (length all - length last) all ≡ last
behind last all l =
    let place : length all - length last ≡ length l.front = omega (arith, ap length l.is, length-append l.front last) in
    ap (λ n. drop n all) place ∙ ap (drop (length l.front)) l.is ∙ drop-append_seam l.front last

-- they are no more than all
pub fewer-from : (bytes : List ℕ) (lines from : List Line) → from ≡ from_campaign bytes (after_program bytes lines) → length from ≤ length lines
fewer-from bytes lines from is = omega (arith, ap length is, fewer (from_campaign bytes (after_program bytes lines)) lines (are-last bytes lines))

-- the lines before them
pub before_from : (bytes : List ℕ) (lines from : List Line) → lines ≡ lines_of bytes → from ≡ from_campaign bytes (after_program bytes lines)
    → (line : Line) (rest : List Line) → from ≡ line ∷ rest → take (length lines - length from) lines ≡ lines_of (take line.start bytes)
before_from bytes lines from all is line rest e =
    let k = length lines - length from in
    let here : drop k lines ≡ line ∷ rest =
    ap (λ (f : List Line). drop (length lines - length f) lines) is
    ∙ behind (from_campaign bytes (after_program bytes lines)) lines (are-last bytes lines) ∙ sym is ∙ e in
    ap (take k) all ∙ sym (lines_before bytes k line rest (ap (drop k) (sym all) ∙ here))

pub first-rest : (lines : List Line) (other : Line) → 1 ≤ length lines → lines ≡ get_or lines 0 other ∷ drop 1 lines
first-rest [] other some = absurd (omega arith)
first-rest (line ∷ lines) other some = refl

-- those after the first one
pub rest-within : (bytes : List ℕ) (lines : List Line) → All (IsWithin bytes) lines → All (IsWithin bytes) (take (length lines - 1) (drop 1 lines))
rest-within bytes lines h = All-take (IsWithin bytes) (length lines - 1) (drop 1 lines) (All-drop (IsWithin bytes) 1 lines h)

-- ---- END among the lines before them

-- the bytes before a place have a line that lies within them as all bytes have it
part-before : (bytes : List ℕ) (n : ℕ) (line : Line) → IsWithin (take n bytes) line → part_of (take n bytes) line ≡ part_of bytes line
part-before bytes n line within =
    let place : line.start + (line.end - line.start) ≤ n = omega (arith, within.in_order, within.in_range, length-take n bytes) in
    let rest : n ≡ line.start + (n - line.start) = omega (arith, place) in
    let few : line.end - line.start ≤ n - line.start = omega (arith, place) in
    ap (λ (k : ℕ). take (line.end - line.start) (drop line.start (take k bytes))) rest
    ∙ ap (take (line.end - line.start)) (drop-take line.start (n - line.start) bytes)
    ∙ take-take (line.end - line.start) (n - line.start) (drop line.start bytes) few

abbrev is-end : List ℕ → Line → Bool
is-end bytes line = is_alone (codes "END") (part_of bytes line)

-- it stands where it stands among all lines
end-before : (bytes : List ℕ) (lines : List Line) (n k at : ℕ) → end_of bytes lines ≡ Some at → at < k → k ≤ length lines
    → All (IsWithin (take n bytes)) (take k lines) → end_of bytes lines ≡ end_of (take n bytes) (take k lines)
end-before bytes lines n k at is below most within =
    let found = position-Some (is-end bytes) lines at no_line is in
    let size : length (take k lines) ≡ k = omega (arith, length-take k lines) in
    let same : (j : ℕ) → j < k → is-end (take n bytes) (get_or (take k lines) j no_line) ≡ is-end bytes (get_or lines j no_line) = λ j l.
    ap (is_alone (codes "END")) (part-before bytes n (get_or (take k lines) j no_line) (within j no_line (omega (arith, size))))
    ∙ ap (is-end bytes) (get_or-take k lines j no_line l) in
    let place : position_or_len (is-end (take n bytes)) (take k lines) ≡ at =
    position_or_len_is (is-end (take n bytes)) (take k lines) at no_line (omega (arith, size))
    (λ j l. same j (omega (arith, l)) ∙ found.2 j l) (λ l. same at below ∙ found.1) in
    let there : nat_lt at (length (take k lines)) ≡ true = grind (arith, nat_tests, size) in
    is ∙ sym (ap (λ (p : ℕ). if nat_lt p (length (take k lines)) then Some p else None) place ∙ ap (λ (t : Bool). if t then Some at else None) there)

-- where CAMPAIGN stands after it
pub end_before_from : (bytes : List ℕ) (lines from : List Line) → lines ≡ lines_of bytes → from ≡ from_campaign bytes (after_program bytes lines)
    → (line : Line) (rest : List Line) → from ≡ line ∷ rest → end_of bytes lines ≡ end_of (take line.start bytes) (take (length lines - length from) lines)
end_before_from bytes lines from all is line rest e = by (end_of bytes lines) refl where
  by : (end : Option ℕ) → end_of bytes lines ≡ end → end_of bytes lines ≡ end_of (take line.start bytes) (take (length lines - length from) lines)
  by None none =
      let nothing : from ≡ [] = is ∙ ap (λ (o : Option ℕ). from_campaign bytes (lines_after lines o)) none ∙ from-nothing bytes in
      absurd (cc (nothing, e))
  by (Some at) some =
      let last : length from ≤ length lines - (at + 1) =
      omega (
        arith,
        ap length (is ∙ ap (λ (o : Option ℕ). from_campaign bytes (lines_after lines o)) some),
        fewer (from_campaign bytes (drop (at + 1) lines)) (drop (at + 1) lines) (from-last bytes (drop (at + 1) lines)),
        length-drop (at + 1) lines,
      ) in
      let found = position-Some (is-end bytes) lines at no_line some in
      let same = before_from bytes lines from all is line rest e in
      end-before bytes lines line.start (length lines - length from) at some (omega (arith, last, found.0, ap length e)) (omega arith)
      (subst (All (IsWithin (take line.start bytes))) (sym same) (lines_of-within (take line.start bytes)))
