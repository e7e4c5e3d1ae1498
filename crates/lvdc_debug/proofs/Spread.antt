-- How many bytes the words of a command take, and how long its answer can be.
use Rattle.std.proofs.Common.{◌≡◌, ℕ, ◌+◌, ◌*◌, ◌<◌, ◌≤◌, Bool, true, false, List, [], ◌∷◌, length, codes, cond, filter, None, Some, refl, ap, subst, arith}
use Rattle.std.specs.Prelude.{nat_le, if◌then◌else◌, option_map}
use Rattle.std.specs.declared.option.Option.{Option}
use Rattle.std.specs.List.{slice_split, onto_first}
use Rattle.std.specs.Str.{bytes_eq}
use Rattle.std.proofs.lemmas.Slice.Eq.{bytes_eq-Decides}
use Rattle.std.proofs.lemmas.Bool.Decides.{nat_tests}
use Rattle.lvdc_map.specs.Address.{Spot}
use Rattle.lvdc_text.specs.Lines.{is_blank, has_bytes, token_texts_of}
use Rattle.lvdc_lines.specs.Fields.{decimal_in, place_in}
use Rattle.lvdc_debug.specs.declared.command.Command.{Command}
use Rattle.lvdc_debug.specs.declared.command.Command.TheVariants.{Step, Go, Break, Regs, Mem, Dis, Copies}
use Rattle.lvdc_debug.specs.Commands.{syllable_in, count_in, step_in, alone_in, break_of, break_in, mem_of, mem_in, dis_in, copies_in, command_in, IsCommand}
use Rattle.lvdc_debug.specs.Room.{most_answer}

-- the bytes of words with one blank after each
abbrev spread : List (List ℕ) → ℕ
spread [] = 0
spread (word ∷ words) = length word + 1 + spread words

-- each word has a byte
abbrev AreFull : List (List ℕ) → Type 0
AreFull [] = Unit {0}
AreFull (word ∷ words) = (0 < length word) × AreFull words

-- ---- the words of a text

spread-onto : (x : ℕ) (pieces : List (List ℕ)) → 0 < length pieces → spread (onto_first x pieces) ≡ spread pieces + 1
spread-onto x [] h = absurd (omega (arith, h))
spread-onto x (piece ∷ pieces) h = omega arith

some-split : (p : ℕ → Bool) (xs : List ℕ) → 0 < length (slice_split p xs)
some-split p [] = omega arith
some-split p (x ∷ xs) = by (p x) (slice_split p xs)
  where
    by : (here : Bool) (rest : List (List ℕ)) → 0 < length (cond here ([] ∷ rest) (onto_first x rest))
    by true rest = omega arith
    by false [] = omega arith
    by false (piece ∷ pieces) = omega arith

spread-split : (p : ℕ → Bool) (xs : List ℕ) → spread (slice_split p xs) ≡ length xs + 1
spread-split p [] = refl
spread-split p (x ∷ xs) = by (p x) (spread-split p xs)
  where
    by : (here : Bool) → spread (slice_split p xs) ≡ length xs + 1
        → spread (cond here ([] ∷ slice_split p xs) (onto_first x (slice_split p xs))) ≡ length (x ∷ xs) + 1
    by true e = omega (arith, e)
    by false e = let on = spread-onto x (slice_split p xs) (some-split p xs) in omega (arith, e, on)

spread-filter : (pieces : List (List ℕ)) → spread (filter has_bytes pieces) ≤ spread pieces
spread-filter [] = omega arith
spread-filter (piece ∷ pieces) = by (has_bytes piece) (spread-filter pieces)
  where
    by : (here : Bool) → spread (filter has_bytes pieces) ≤ spread pieces
        → spread (cond here (piece ∷ filter has_bytes pieces) (filter has_bytes pieces)) ≤ length piece + 1 + spread pieces
    by true h = omega (arith, h)
    by false h = omega (arith, h)

full-filter : (pieces : List (List ℕ)) → AreFull (filter has_bytes pieces)
full-filter [] = tt
full-filter (piece ∷ pieces) = by (has_bytes piece) refl (full-filter pieces)
  where
    by : (here : Bool) → has_bytes piece ≡ here → AreFull (filter has_bytes pieces) → AreFull (cond here (piece ∷ filter has_bytes pieces) (filter has_bytes pieces))
    by true e rest = (grind (arith, nat_tests), rest)
    by false e rest = rest

-- ---- the words of a command

-- the bytes that a command takes at least, if its answer may be long
abbrev least_spread : Command → ℕ
least_spread (Mem at count) = 12
least_spread (Dis at syl count) = 14
least_spread command = 0

abbrev Least : ℕ → Option Command → Type 0
Least n None = Unit {0}
Least n (Some command) = least_spread command ≤ n

least-map : (f : ℕ → Command) → ((n : ℕ) → least_spread (f n) ≡ 0) → (x : Option ℕ) (n : ℕ) → Least n (option_map f x)
least-map f none None n = tt
least-map f none (Some k) n = let e = none k in omega (arith, e)

least-step : (fields : List (List ℕ)) (n : ℕ) → Least n (step_in fields)
least-step [] n = tt
least-step (a ∷ []) n = least-map Step (λ k. refl) (decimal_in 1 1000001 a) n
least-step (a ∷ b ∷ more) n = tt

least-alone : (command : Command) (fields : List (List ℕ)) (n : ℕ) → least_spread command ≡ 0 → Least n (alone_in command fields)
least-alone command [] n e = omega (arith, e)
least-alone command (a ∷ more) n e = tt

least-break_of : (at : Option Spot) (syl : Option ℕ) (n : ℕ) → Least n (break_of at syl)
least-break_of None syl n = tt
least-break_of (Some at) None n = tt
least-break_of (Some at) (Some syl) n = omega arith

least-break : (fields : List (List ℕ)) (n : ℕ) → Least n (break_in fields)
least-break [] n = tt
least-break (a ∷ []) n = tt
least-break (a ∷ b ∷ []) n = tt
least-break (a ∷ b ∷ c ∷ []) n = tt
least-break (a ∷ b ∷ c ∷ d ∷ []) n = least-break_of (place_in a b d) (syllable_in c) n
least-break (a ∷ b ∷ c ∷ d ∷ e ∷ more) n = tt

least-if : (test : Bool) (command : Command) (n : ℕ) → least_spread command ≤ n → Least n (if test then Some command else None)
least-if true command n h = h
least-if false command n h = tt

least-mem_of : (at : Option Spot) (count : Option ℕ) (n : ℕ) → 12 ≤ n → Least n (mem_of at count)
least-mem_of None count n h = tt
least-mem_of (Some at) None n h = tt
least-mem_of (Some at) (Some count) n h = least-if (nat_le (at.loc + count) 256) (Mem at count) n h

least-mem : (fields : List (List ℕ)) → AreFull fields → Least (4 + spread fields) (mem_in fields)
least-mem [] full = tt
least-mem (a ∷ []) full = tt
least-mem (a ∷ b ∷ []) full = tt
least-mem (a ∷ b ∷ c ∷ []) full = tt
least-mem (a ∷ b ∷ c ∷ d ∷ []) full =
    let e = full.0 in let f = full.1.0 in let g = full.1.1.0 in let h = full.1.1.1.0 in
    least-mem_of (place_in a b c) (count_in d) _ (omega (arith, e, f, g, h))
least-mem (a ∷ b ∷ c ∷ d ∷ e ∷ more) full = tt

least-any : (x : Option Command) (n : ℕ) → 14 ≤ n → Least n x
least-any None n h = tt
least-any (Some (Step k)) n h = omega arith
least-any (Some Go) n h = omega arith
least-any (Some (Break spot)) n h = omega arith
least-any (Some Regs) n h = omega arith
least-any (Some (Mem at count)) n h = omega (arith, h)
least-any (Some (Dis at syl count)) n h = omega (arith, h)
least-any (Some (Copies number)) n h = omega arith

least-dis : (fields : List (List ℕ)) → AreFull fields → Least (4 + spread fields) (dis_in fields)
least-dis [] full = tt
least-dis (a ∷ []) full = tt
least-dis (a ∷ b ∷ []) full = tt
least-dis (a ∷ b ∷ c ∷ []) full = tt
least-dis (a ∷ b ∷ c ∷ d ∷ []) full = tt
least-dis (a ∷ b ∷ c ∷ d ∷ e ∷ []) full =
    let i = full.0 in let f = full.1.0 in let g = full.1.1.0 in let h = full.1.1.1.0 in let j = full.1.1.1.1.0 in
    least-any (dis_in (a ∷ b ∷ c ∷ d ∷ e ∷ [])) _ (omega (arith, i, f, g, h, j))
least-dis (a ∷ b ∷ c ∷ d ∷ e ∷ f ∷ more) full = tt

least-copies : (fields : List (List ℕ)) (n : ℕ) → Least n (copies_in fields)
least-copies [] n = tt
least-copies (a ∷ []) n = least-map Copies (λ k. refl) (decimal_in 1 8 a) n
least-copies (a ∷ b ∷ more) n = tt

named : (word name : List ℕ) → bytes_eq word name ≡ true → length word ≡ length name
named word name is = ap length ((bytes_eq-Decides word name).0 is)

least-command : (words : List (List ℕ)) → AreFull words → Least (spread words) (command_in words)
least-command [] full = tt
least-command (word ∷ fields) full =
    by (bytes_eq word (codes "STEP")) (bytes_eq word (codes "GO")) (bytes_eq word (codes "BREAK")) (bytes_eq word (codes "REGS"))
    (bytes_eq word (codes "MEM")) (bytes_eq word (codes "DIS")) (bytes_eq word (codes "COPIES")) (named word (codes "MEM")) (named word (codes "DIS"))
  where
    by : (a b c d e f g : Bool) → (e ≡ true → length word ≡ 3) → (f ≡ true → length word ≡ 3)
        → Least (length word + 1 + spread fields)
        (if a then step_in fields else (if b then alone_in Go fields else (if c then break_in fields else (if d then alone_in Regs fields
        else (if e then mem_in fields else (if f then dis_in fields else (if g then copies_in fields else None)))))))
    by true b c d e f g mem dis = least-step fields _
    by false true c d e f g mem dis = least-alone Go fields _ refl
    by false false true d e f g mem dis = least-break fields _
    by false false false true e f g mem dis = least-alone Regs fields _ refl
    by false false false false true f g mem dis =
        let three = mem refl in
        let n : 4 + spread fields ≡ length word + 1 + spread fields = omega (arith, three) in
        subst (λ (k : ℕ). Least k (mem_in fields)) n (least-mem fields full.1)
    by false false false false false true g mem dis =
        let three = dis refl in
        let n : 4 + spread fields ≡ length word + 1 + spread fields = omega (arith, three) in
        subst (λ (k : ℕ). Least k (dis_in fields)) n (least-dis fields full.1)
    by false false false false false false true mem dis = least-copies fields _
    by false false false false false false false mem dis = tt

-- ---- the answer

answer-by : (command : Command) (size : ℕ) → IsCommand command → least_spread command ≤ size + 1 → most_answer command + size + 3 ≤ 500 * (size + 1)
answer-by (Step n) size ranges least = omega arith
answer-by Go size ranges least = omega arith
answer-by (Break spot) size ranges least = omega arith
answer-by Regs size ranges least = omega arith
answer-by (Mem at count) size ranges least = let w = ranges.within in omega (arith, w, least)
answer-by (Dis at syl count) size ranges least = let w = ranges.0.within in omega (arith, w, least)
answer-by (Copies number) size ranges least = omega arith

-- a line and its answer have at most 500 bytes for each byte of the line and of its end
pub answer-short : (text : List ℕ) (command : Command) → command_in (token_texts_of text) ≡ Some command → IsCommand command
    → most_answer command + length text + 3 ≤ 500 * (length text + 1)
answer-short text command is ranges =
    let most = spread-filter (slice_split is_blank text) in
    let all = spread-split is_blank text in
    let least : least_spread command ≤ spread (token_texts_of text) =
    subst (λ (x : Option Command). Least (spread (token_texts_of text)) x) is (least-command (token_texts_of text) (full-filter (slice_split is_blank text))) in
    answer-by command (length text) ranges (omega (arith, most, all, least))
