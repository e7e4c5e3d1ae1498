-- The fields of a line, read again.
use Rattle.std.proofs.Common.{◌≡◌, ℕ, ◌+◌, ◌%◌, ◌^◌, ◌<◌, ◌≤◌, true, [], ◌∷◌, decimal, Option, Some, refl, sym, ap, ◌∙◌, arith}
use Rattle.std.specs.Prelude.{nat_le}
use Rattle.std.proofs.lemmas.Bool.{lt-ltb}
use Rattle.std.proofs.lemmas.Bool.Decides.{nat_tests}
use Rattle.std.proofs.lemmas.Fmt.{decimal_digit}
use Rattle.lvdc_map.specs.Address.{Spot}
use Rattle.lvdc_text.specs.Numbers.{word_in, below, octal_text}
use Rattle.lvdc_text.proofs.ReadBack.{number_of-octal_text}
use Rattle.lvdc_fault.specs.Events.{IsCopy, IsSpan, STEPS}
use Rattle.lvdc_lines.specs.Fields.{from, decimal_in, octal_in, step_in, twin_in, pair_in, cell_in, module_copy_in, span_in, place_in}
use Rattle.lvdc_save.proofs.Words.{plain_number-decimal}

le-leb : (m n : ℕ) → m ≤ n → nat_le m n ≡ true
le-leb m n l = grind (arith, nat_tests)

-- ---- numbers

pub decimal-read : (first limit n : ℕ) → first ≤ n → n < limit → n < 10 ^ 7 → decimal_in first limit (decimal n) ≡ Some n
decimal-read first limit n least most short =
    ap (λ (found : Option ℕ). from first (below limit found)) (plain_number-decimal n short)
    ∙ rw (lt-ltb n limit most, le-leb first n least) refl

pub octal-read : (limit width n : ℕ) → 0 < width → n < limit → n < 8 ^ width → octal_in limit width (octal_text width n) ≡ Some n
octal-read limit width n some most short =
    ap (below limit) (number_of-octal_text width width n some (omega arith) short) ∙ rw (lt-ltb n limit most) refl

pub word-read : (n : ℕ) → n < 2 ^ 26 → word_in (octal_text 9 n) ≡ Some n
unfolding word_in
word-read n most =
    ap (below (2 ^ 26)) (number_of-octal_text 9 9 n (omega arith) (omega arith) (omega (arith, most))) ∙ rw (lt-ltb n (2 ^ 26) most) refl

-- ---- the fields of events

pub step-read : (n : ℕ) → n < STEPS → step_in (decimal n) ≡ Some n
unfolding step_in
step-read n most = decimal-read 0 STEPS n (omega arith) most (omega (arith, most))

pub twin-read : (n : ℕ) → n < 2 → twin_in (decimal n) ≡ Some n
unfolding twin_in
twin-read n most = decimal-read 0 2 n (omega arith) most (omega (arith, most))

pair-read : (n : ℕ) → n < 4 → pair_in (octal_text 1 n) ≡ Some n
unfolding pair_in
pair-read n most = octal-read 4 1 n (omega arith) most (omega (arith, most))

one_digit : (n : ℕ) → n < 8 → decimal n ≡ octal_text 1 n
unfolding octal_text
one_digit n low = let same : n % 8 ≡ n = omega (arith, low) in decimal_digit n (omega (arith, low)) ∙ ap (λ (m : ℕ). (48 + m) ∷ []) (sym same)

-- a pair in decimal
pub one_pair-read : (n : ℕ) → n < 4 → pair_in (decimal n) ≡ Some n
one_pair-read n most = ap pair_in (one_digit n (omega (arith, most))) ∙ pair-read n most

pub cell-read : (n : ℕ) → n < 2 ^ 28 → cell_in (octal_text 10 n) ≡ Some n
unfolding cell_in
cell-read n most = octal-read (2 ^ 28) 10 n (omega arith) most (omega (arith, most))

pub place-read : (at : Spot) → at.pair < 4 → at.sector < 16 → at.loc < 256
    → place_in (octal_text 1 at.pair) (octal_text 2 at.sector) (octal_text 3 at.loc) ≡ Some at
unfolding place_in
place-read at pair sector loc =
    rw (
      pair-read at.pair pair,
      octal-read 16 2 at.sector (omega arith) sector (omega (arith, sector)),
      octal-read 256 3 at.loc (omega arith) loc (omega (arith, loc)),
    ) refl

pub module_copy-read : (number copy : ℕ) → IsCopy number copy
    → module_copy_in (decimal number) (decimal copy) ≡ Some (record { number = number; copy = copy })
unfolding module_copy_in
module_copy-read number copy is =
    rw (
      decimal-read 1 8 number is.first_module is.last_module (omega (arith, is.last_module)),
      decimal-read 1 4 copy is.first_copy is.last_copy (omega (arith, is.last_copy)),
    ) refl

pub span-read : (first last : ℕ) → IsSpan first last → span_in (decimal first) (decimal last) ≡ Some (record { first = first; last = last })
unfolding span_in
span-read first last is =
    rw (step-read first (omega (arith, is.in_order, is.below)), step-read last is.below, le-leb first last is.in_order) refl
