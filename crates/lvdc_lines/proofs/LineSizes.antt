-- How long lines are, and texts that they make.
use Rattle.std.proofs.Common.{◌≡◌, ℕ, ◌+◌, ◌*◌, ◌<◌, ◌≤◌, ◌^◌, Bool, true, false, List, [], ◌∷◌, ◌++◌, All, length, decimal, refl, ap, ◌∙◌, arith, length-append}
use Rattle.std.proofs.Math.Nat.{mul-suc}
use Rattle.std.proofs.lemmas.Fmt.{length-decimal-le}
use Rattle.std.proofs.lemmas.List.Elements.{All-head, All-tail}
use Rattle.lvdc_text.proofs.ReadBack.{length-octal_text}
use Rattle.lvdc_model.specs.declared.repair.Repair.{Repair}
use Rattle.lvdc_lines.specs.Noted.{lines_of, direction, switch_text, repair_line, noted_size}
use Rattle.lvdc_lines.proofs.LineLists.{lines_of-append}

-- what was added is short, so the whole grows by little
pub grown_by : (old new text : List ℕ) (n : ℕ) → new ≡ old ++ text → length text ≤ n → length new ≤ length old + n
grown_by old new text n e h = omega (arith, ap length e, length-append old text)

pub decimal_short : (n : ℕ) → n < 2 ^ 64 → length (decimal n) ≤ 20
decimal_short n h = length-decimal-le 20 n (omega arith) (omega arith) h

-- a number of one byte
pub byte_short : (n : ℕ) → n < 256 → length (decimal n) ≤ 3
byte_short n h = length-decimal-le 3 n (omega arith) (omega (arith, h)) (omega (arith, h))

-- a number of seven digits
pub step_short : (n : ℕ) → n < 10 ^ 7 → length (decimal n) ≤ 7
step_short n h = length-decimal-le 7 n (omega arith) h (omega (arith, h))

pub length-switch_text : (switched : Bool) → length (switch_text switched) ≤ 7
length-switch_text true = omega arith
length-switch_text false = omega arith

pub length-direction : (reading : Bool) → length (direction reading) ≤ 4
length-direction true = omega arith
length-direction false = omega arith

-- the line of a repair whose twin is a number of one byte, in a step of seven digits
pub repair_short : (r : Repair) → r.twin < 256 → r.step < 10 ^ 7 → length (repair_line r) ≤ 35
repair_short r twin early =
    simp (length-append, length-octal_text) (omega (arith, length-switch_text r.switched, step_short r.step early, byte_short r.twin twin))

pub length-both : {A : Type 0} (line : A → List ℕ) (xs ys : List A)
    → length (lines_of line (xs ++ ys)) ≡ length (lines_of line xs) + length (lines_of line ys)
length-both line xs ys = ap length (lines_of-append line xs ys) ∙ length-append (lines_of line xs) (lines_of line ys)

pub length-lines : {A : Type 0} (line : A → List ℕ) (most : ℕ) (items : List A) → All (λ (a : A). length (line a) ≤ most) items
    → length (lines_of line items) ≤ most * length items
unfolding lines_of
length-lines line most [] short = omega arith
length-lines {A = A} line most (a ∷ items) short =
    let one : length (line a) ≤ most = All-head (λ (a : A). length (line a) ≤ most) a items short in
    omega (
      arith,
      one,
      length-lines line most items (All-tail (λ (a : A). length (line a) ≤ most) a items short),
      length-append (line a) (lines_of line items),
      mul-suc most (length items),
    )

pub none-noted : noted_size [] [] ≡ 0
unfolding lines_of
none-noted = refl
