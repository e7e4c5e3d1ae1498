-- The names of simplex pairs, and the letters of an order.
use Rattle.std.proofs.Common.{◌≡◌, ℕ, ◌+◌, ◌-◌, ◌<◌, Bool, true, false, ◌==◌, List, [], ◌∷◌, ◌++◌, map, length, codes, None, Some, refl, ap, ◌∙◌, arith, if◌then◌else◌}
use Rattle.std.specs.Prelude.{nat_le}
use Rattle.std.specs.List.{list_all}
use Rattle.std.specs.Str.{bytes_eq}
use Rattle.std.proofs.lemmas.Bool.{eqb-true}
use Rattle.std.proofs.lemmas.Bool.Decides.{nat_tests}
use Rattle.std.proofs.lemmas.List.{length-map}
use Rattle.std.proofs.lemmas.Slice.Eq.{bytes_eq-Decides}
use Rattle.lvdc_map.specs.Banks.{is_simplex}
use Rattle.lvdc_image.specs.Image.{simplex_line}
use Rattle.lvdc_orders.specs.Orders.{is_order, order_of}
use Rattle.lvdc_orders.proofs.Permutations.{full_from_order, length-full}
use Rattle.lvdc_lines.specs.Lines.{fault_in, order_in}
use Rattle.lvdc_save.specs.Entries.{pairs_in}
use Rattle.lvdc_save.proofs.Words.{IsWord, AreWords, after_blanks, is_visible}
use Rattle.lvdc_save.proofs.Below.{all_below, from_all_below}
use Rattle.lvdc_save.proofs.FaultFields.{AreWords-append}

-- ---- pairs

-- the name of a pair, where it is simplex
abbrev pub pair_field : ℕ → ℕ → List (List ℕ)
pair_field banks pair = if is_simplex banks pair then ((48 + pair) ∷ []) ∷ [] else []

-- the names of the simplex pairs
abbrev pub pair_fields : ℕ → List (List ℕ)
pair_fields banks = pair_field banks 0 ++ (pair_field banks 1 ++ (pair_field banks 2 ++ pair_field banks 3))

name-word : (pair : ℕ) (named : Bool) → AreWords (if named then ((48 + pair) ∷ []) ∷ [] else [])
name-word pair true =
    let seen : is_visible (48 + pair) ≡ true = grind (arith, nat_tests) in
    (record { some = omega arith; visible = rw seen refl }, tt)
name-word pair false = tt

pub pairs-words : (banks : ℕ) → AreWords (pair_fields banks)
pairs-words banks =
    AreWords-append (pair_field banks 0) (pair_field banks 1 ++ (pair_field banks 2 ++ pair_field banks 3)) (name-word 0 (is_simplex banks 0))
    (AreWords-append (pair_field banks 1) (pair_field banks 2 ++ pair_field banks 3) (name-word 1 (is_simplex banks 1))
    (AreWords-append (pair_field banks 2) (pair_field banks 3) (name-word 2 (is_simplex banks 2)) (name-word 3 (is_simplex banks 3))))

-- the line of these pairs is their names, and the names say these pairs
says_again : ℕ → Bool
says_again banks = pairs_in (pair_fields banks) == banks

is_spelled : ℕ → Bool
is_spelled banks = bytes_eq (simplex_line banks) (codes "SIMPLEX" ++ after_blanks (pair_fields banks))

all_again : all_below says_again 16 ≡ true
unfolding all_below says_again
all_again = refl

all_spelled : all_below is_spelled 16 ≡ true
unfolding all_below is_spelled
all_spelled = refl

pub pairs-read : (banks : ℕ) → banks < 16 → pairs_in (pair_fields banks) ≡ banks
unfolding says_again
pairs-read banks low = eqb-true (pairs_in (pair_fields banks)) banks (from_all_below says_again 16 banks all_again low)

pub pairs-spelled : (banks : ℕ) → banks < 16 → simplex_line banks ≡ codes "SIMPLEX" ++ after_blanks (pair_fields banks)
unfolding is_spelled
pairs-spelled banks low =
    (bytes_eq-Decides (simplex_line banks) (codes "SIMPLEX" ++ after_blanks (pair_fields banks))).0
    (from_all_below is_spelled 16 banks all_spelled low)

-- ---- orders

-- the letters of the copies
abbrev pub letters : List ℕ → List ℕ
letters order = map (λ copy. 65 + copy) order

letters-visible : (order : List ℕ) → list_all is_visible (letters order) ≡ true
letters-visible [] = refl
letters-visible (copy ∷ order) = let seen : is_visible (65 + copy) ≡ true = grind (arith, nat_tests) in rw (seen, letters-visible order) refl

letters-high : (order : List ℕ) → list_all (nat_le 65) (letters order) ≡ true
letters-high [] = refl
letters-high (copy ∷ order) = let high : nat_le 65 (65 + copy) ≡ true = grind (arith, nat_tests) in rw (high, letters-high order) refl

letters-again : (order : List ℕ) → map (λ letter. letter - 65) (letters order) ≡ order
letters-again [] = refl
letters-again (copy ∷ order) = let same : 65 + copy - 65 ≡ copy = omega arith in rw (same, letters-again order) refl

letters-length : (order : List ℕ) → is_order order ≡ true → length (letters order) ≡ 21
letters-length order is = length-map order (λ copy. 65 + copy) ∙ length-full 21 order (full_from_order order is)

pub letters-word : (order : List ℕ) → is_order order ≡ true → IsWord (letters order)
letters-word order is = record { some = omega (arith, letters-length order is); visible = letters-visible order }

pub order-read : (order : List ℕ) → is_order order ≡ true → order_in (letters order ∷ []) ≡ Some order
order-read order is =
    ap (λ (high : Bool). if high then order_of (map (λ letter. letter - 65) (letters order)) else None) (letters-high order)
    ∙ ap order_of (letters-again order) ∙ ap (λ (yes : Bool). if yes then Some order else None) is

by_length : (text word : List ℕ) (same : Bool) → length word < length text → bytes_eq text word ≡ same → same ≡ false
by_length text word true more e = absurd (let is = ap length ((bytes_eq-Decides text word).0 e) in omega (arith, more, is))
by_length text word false more e = refl

-- a longer text is another word
pub longer-other : (order word : List ℕ) → is_order order ≡ true → length word < 21 → bytes_eq (letters order) word ≡ false
longer-other order word is few =
    by_length (letters order) word (bytes_eq (letters order) word) (omega (arith, few, letters-length order is)) refl

pub order-no_fault : (order : List ℕ) → is_order order ≡ true → fault_in (letters order ∷ []) ≡ None
order-no_fault order is =
    let other = λ (word : List ℕ) (few : length word < 21). longer-other order word is few in
    rw (
      other (codes "FLIP") (omega arith),
      other (codes "FORCE") (omega arith),
      other (codes "LAG") (omega arith),
      other (codes "DEAF") (omega arith),
      other (codes "DAMAGE") (omega arith),
      other (codes "STICK") (omega arith),
      other (codes "DEAD") (omega arith),
    ) refl
