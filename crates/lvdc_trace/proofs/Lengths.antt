-- How long the lines of a step are.
use Rattle.std.proofs.Common.{◌≡◌, ℕ, zero, suc, ◌+◌, ◌*◌, ◌<◌, ◌≤◌, Bool, true, false, List, length, decimal, refl, arith, length-append}
use Rattle.std.proofs.lemmas.Fmt.{length-decimal-le}
use Rattle.lvdc_vote.specs.Copies.{Copies}
use Rattle.lvdc_vote.specs.Numbers.{latches_of}
use Rattle.lvdc_text.proofs.ReadBack.{length-octal_text}
use Rattle.lvdc_lines.specs.Noted.{lines_below}
use Rattle.lvdc_logic.specs.Logic.{latch_of, vote_at, is_outvoted}
use Rattle.lvdc_debug.specs.Session.{latch_text, copy_line}
use Rattle.lvdc_trace.specs.Steps.{vote_line, told_copy, told_copies, copies_text}

-- a number of one digit
pub one_digit : (n : ℕ) → n < 10 → length (decimal n) ≤ 1
one_digit n h = length-decimal-le 1 n (omega arith) (omega (arith, h)) (omega (arith, h))

-- a word of a latch has ten bytes with its blank
pub length-latches : (word : ℕ → ℕ) (count : ℕ) → length (lines_below (λ index. latch_text (word index)) count) ≡ 10 * count
unfolding lines_below
length-latches word zero = refl
length-latches word (suc count) =
    let before = length-latches word count in
    let last = length-octal_text 9 (word count) in
    omega (arith, before, last, length-append (lines_below (λ index. latch_text (word index)) count) (latch_text (word count)))

pub length-vote_line : (copies : List Copies) (number : ℕ) → number < 8 → length (vote_line copies number) ≤ 7 + 10 * latches_of number
length-vote_line copies number h =
    let words = length-latches (λ index. vote_at copies number index) (latches_of number) in
    let digit = one_digit number (omega (arith, h)) in
    simp length-append (omega (arith, words, digit))

length-copy_line : (copies : List Copies) (number copy : ℕ) → number < 8 → copy < 4 → length (copy_line copies number copy) ≤ 9 + 10 * latches_of number
length-copy_line copies number copy h k =
    let words = length-latches (λ index. latch_of copies number copy index) (latches_of number) in
    let one = one_digit number (omega (arith, h)) in
    let two = one_digit copy (omega (arith, k)) in
    simp length-append (omega (arith, words, one, two))

length-told_copy : (copies : List Copies) (number copy : ℕ) → number < 8 → copy < 4 → length (told_copy copies number copy) ≤ 9 + 10 * latches_of number
length-told_copy copies number copy h k = by (is_outvoted copies number copy) refl
  where
    by : (apart : Bool) → is_outvoted copies number copy ≡ apart → length (told_copy copies number copy) ≤ 9 + 10 * latches_of number
    by true is = rw is (length-copy_line copies number copy h k)
    by false is = rw is (omega arith)

length-told_copies : (copies : List Copies) (number : ℕ) → number < 8 → length (told_copies copies number) ≤ 27 + 30 * latches_of number
length-told_copies copies number h =
    let one = length-told_copy copies number 1 h (omega arith) in
    let two = length-told_copy copies number 2 h (omega arith) in
    let three = length-told_copy copies number 3 h (omega arith) in
    simp length-append (omega (arith, one, two, three))

-- the most bytes of the COPY lines of the first so many modules
abbrev copy_room : ℕ → ℕ
copy_room zero = 0
copy_room (suc modules) = copy_room modules + (27 + 30 * latches_of (modules + 1))

length-copies-below : (copies : List Copies) (n : ℕ) → n < 8 → length (lines_below (λ modules. told_copies copies (modules + 1)) n) ≤ copy_room n
unfolding lines_below
length-copies-below copies zero h = omega arith
length-copies-below copies (suc n) h =
    let before = length-copies-below copies n (omega (arith, h)) in
    let last = length-told_copies copies (n + 1) (omega (arith, h)) in
    omega (arith, before, last, length-append (lines_below (λ modules. told_copies copies (modules + 1)) n) (told_copies copies (n + 1)))

-- all 21 copies
pub length-copies_text : (copies : List Copies) → length (copies_text copies) ≤ 639
length-copies_text copies = length-copies-below copies 7 (omega arith)

-- the most bytes of the VOTE lines of the first so many modules
abbrev pub vote_room : ℕ → ℕ
vote_room zero = 0
vote_room (suc modules) = vote_room modules + (7 + 10 * latches_of (modules + 1))
