-- A SIMPLEX line and its pairs.
use Rattle.std.proofs.Common.{◌≡◌, ℕ, ◌+◌, ◌*◌, ◌/◌, ◌%◌, ◌<◌, zero, suc, not, Bool, true, false, eqb, ◌&&◌, ◌==◌, List, [], ◌∷◌, ◌++◌, codes, length, take, drop, None, Some, refl, sym, ap, ◌∙◌, arith, append_assoc, if◌then◌else◌}
use Rattle.std.specs.Str.{bytes_eq}
use Rattle.std.proofs.lemmas.Bool.{eqb-true}
use Rattle.std.proofs.lemmas.List.{append-nil, take-append-drop, nil_from_length}
use Rattle.std.proofs.lemmas.Slice.Eq.{bytes_eq-Decides}
use Rattle.lvdc_map.specs.Banks.{is_simplex}
use Rattle.lvdc_map.specs.declared.placed.Placed.{Placed}
use Rattle.lvdc_text.specs.Numbers.{octal_text}
use Rattle.lvdc_image.specs.Image.{word_line, simplex_line}
use Rattle.lvdc_image.specs.Reading.{names_pair, after_pair, banks_named, banks_in}
use Rattle.lvdc_image.proofs.Parts.{both, some_if}

-- the name of a pair, where it is named
abbrev name_if : Bool → ℕ → List ℕ
name_if named pair = if named then 32 ∷ (48 + pair) ∷ [] else []

-- the banks in which these of the pairs 0 to 3 are simplex
abbrev banks_from : Bool → Bool → Bool → Bool → ℕ
banks_from zero_ one two three = (if zero_ then 1 else 0) + (if one then 2 else 0) + (if two then 4 else 0) + (if three then 8 else 0)

names : Bool → Bool → Bool → Bool → List ℕ
names a b c d = codes "SIMPLEX" ++ name_if a 0 ++ name_if b 1 ++ name_if c 2 ++ name_if d 3

simplex_line-from : (a b c d : Bool) → simplex_line (banks_from a b c d) ≡ names a b c d
unfolding names
simplex_line-from true true true true = refl
simplex_line-from true true true false = refl
simplex_line-from true true false true = refl
simplex_line-from true true false false = refl
simplex_line-from true false true true = refl
simplex_line-from true false true false = refl
simplex_line-from true false false true = refl
simplex_line-from true false false false = refl
simplex_line-from false true true true = refl
simplex_line-from false true true false = refl
simplex_line-from false true false true = refl
simplex_line-from false true false false = refl
simplex_line-from false false true true = refl
simplex_line-from false false true false = refl
simplex_line-from false false false true = refl
simplex_line-from false false false false = refl

banks_in-names : (a b c d : Bool) → banks_in (names a b c d) ≡ (if banks_from a b c d == 0 then None else Some (banks_from a b c d))
unfolding names banks_in banks_named
banks_in-names true true true true = refl
banks_in-names true true true false = refl
banks_in-names true true false true = refl
banks_in-names true true false false = refl
banks_in-names true false true true = refl
banks_in-names true false true false = refl
banks_in-names true false false true = refl
banks_in-names true false false false = refl
banks_in-names false true true true = refl
banks_in-names false true true false = refl
banks_in-names false true false true = refl
banks_in-names false true false false = refl
banks_in-names false false true true = refl
banks_in-names false false true false = refl
banks_in-names false false false true = refl
banks_in-names false false false false = refl

bit_value : (bit value : ℕ) → bit < 2 → (if bit == 1 then value else 0) ≡ bit * value
bit_value zero value l = omega arith
bit_value (suc zero) value l = omega arith
bit_value (suc (suc bit)) value l = absurd (omega arith)

banks_from-bits : (banks : ℕ) → banks < 16 → banks_from (is_simplex banks 0) (is_simplex banks 1) (is_simplex banks 2) (is_simplex banks 3) ≡ banks
banks_from-bits banks l =
    rw (bit_value (banks / 1 % 2) 1 (omega arith), bit_value (banks / 2 % 2) 2 (omega arith), bit_value (banks / 4 % 2) 4 (omega arith), bit_value (banks / 8 % 2) 8 (omega arith)) (omega arith)

-- the SIMPLEX line of simplex pairs tells them
pub banks_in-simplex_line : (banks : ℕ) → banks < 16 → (banks == 0) ≡ false → banks_in (simplex_line banks) ≡ Some banks
banks_in-simplex_line banks l some =
    let bits = banks_from-bits banks l in
    ap (λ (n : ℕ). banks_in (simplex_line n)) (sym bits)
    ∙ ap banks_in (simplex_line-from (is_simplex banks 0) (is_simplex banks 1) (is_simplex banks 2) (is_simplex banks 3))
    ∙ banks_in-names (is_simplex banks 0) (is_simplex banks 1) (is_simplex banks 2) (is_simplex banks 3)
    ∙ ap (λ (n : ℕ). if n == 0 then None else Some n) bits
    ∙ ap (λ (none : Bool). if none then None else Some banks) some

-- a text begins with the name of a pair, or with what comes after it
named : (pair : ℕ) (text : List ℕ) → names_pair pair text ≡ true → text ≡ 32 ∷ (48 + pair) ∷ drop 2 text
named pair [] e = absurd (cc)
named pair (a ∷ []) e = absurd (let tests = both (eqb a 32) (eqb 0 (48 + pair)) e in let none : 0 ≡ 48 + pair = eqb-true 0 (48 + pair) tests.1 in omega arith)
named pair (a ∷ b ∷ rest) e =
    let tests = both (eqb a 32) (eqb b (48 + pair)) e in
    rw (eqb-true a 32 tests.0, eqb-true b (48 + pair) tests.1) refl

name_and_rest : (pair : ℕ) (text : List ℕ) (is : Bool) → names_pair pair text ≡ is → text ≡ name_if is pair ++ (if is then drop 2 text else text)
name_and_rest pair text true e = named pair text e
name_and_rest pair text false e = refl

-- a text is the name of a pair, where it begins with it, and the text after it
name_first : (pair : ℕ) (text : List ℕ) → text ≡ name_if (names_pair pair text) pair ++ after_pair pair text
name_first pair text = name_and_rest pair text (names_pair pair text) refl

some_test : (empty none : Bool) (one banks : ℕ) → (if empty && not none then Some one else None) ≡ Some banks → (empty ≡ true) × (none ≡ false) × (one ≡ banks)
some_test true false one banks e = (refl, refl, cc)
some_test true true one banks e = absurd (cc)
some_test false none one banks e = absurd (cc)

-- the banks that a text names, and that it is their names
record IsNamed (text : List ℕ) (banks : ℕ) : Type 0 where
  some : (banks == 0) ≡ false
  line : codes "SIMPLEX" ++ text ≡ simplex_line banks

chain : (a b c d text text_1 text_2 text_3 rest : List ℕ) → text ≡ a ++ text_1 → text_1 ≡ b ++ text_2 → text_2 ≡ c ++ text_3 → text_3 ≡ d ++ rest → rest ≡ []
    → codes "SIMPLEX" ++ text ≡ codes "SIMPLEX" ++ a ++ b ++ c ++ d
chain a b c d text text_1 text_2 text_3 rest e f g h n =
    let last : text_3 ≡ d = h ∙ ap (λ (r : List ℕ). d ++ r) n ∙ append-nil d in
    let all : text ≡ a ++ (b ++ (c ++ d)) = e ∙ ap (λ (r : List ℕ). a ++ r) (f ∙ ap (λ (r : List ℕ). b ++ r) (g ∙ ap (λ (r : List ℕ). c ++ r) last)) in
    ap (λ (r : List ℕ). codes "SIMPLEX" ++ r) all ∙ simp append_assoc

banks_named-some : (text : List ℕ) (banks : ℕ) → banks_named text ≡ Some banks → IsNamed text banks
unfolding banks_named names
banks_named-some text banks e =
    let text_1 : List ℕ = after_pair 0 text in
    let text_2 : List ℕ = after_pair 1 text_1 in
    let text_3 : List ℕ = after_pair 2 text_2 in
    let a : Bool = names_pair 0 text in
    let b : Bool = names_pair 1 text_1 in
    let c : Bool = names_pair 2 text_2 in
    let d : Bool = names_pair 3 text_3 in
    let found = some_test (eqb (length (after_pair 3 text_3)) 0) (eqb (banks_from a b c d) 0) (banks_from a b c d) banks e in
    record {
      some = ap (λ (n : ℕ). n == 0) (sym found.2) ∙ found.1;
      line = chain (name_if a 0) (name_if b 1) (name_if c 2) (name_if d 3) text text_1 text_2 text_3 (after_pair 3 text_3)
          (name_first 0 text) (name_first 1 text_1) (name_first 2 text_2) (name_first 3 text_3)
          (nil_from_length (after_pair 3 text_3) (eqb-true (length (after_pair 3 text_3)) 0 found.0))
          ∙ sym (simplex_line-from a b c d) ∙ ap simplex_line found.2;
    }

-- a line that tells simplex pairs is their line
pub banks_in-some : (text : List ℕ) (banks : ℕ) → banks_in text ≡ Some banks → ((banks == 0) ≡ false) × (text ≡ simplex_line banks)
unfolding banks_in
banks_in-some text banks e =
    let found = some_if (bytes_eq (take 7 text) (codes "SIMPLEX")) (banks_named (drop 7 text)) banks e in
    let told = banks_named-some (drop 7 text) banks found.1 in
    (told.some, sym (take-append-drop 7 text) ∙ ap (λ (front : List ℕ). front ++ drop 7 text) ((bytes_eq-Decides (take 7 text) (codes "SIMPLEX")).0 found.0) ∙ told.line)

-- neither a word line nor END is a SIMPLEX line
digit-no : (digit : ℕ) → eqb (48 + digit % 8) 83 ≡ false
digit-no digit = grind arith

pub banks_in-word_line : (placed : Placed) → banks_in (word_line placed) ≡ None
unfolding octal_text banks_in
banks_in-word_line placed = rw (digit-no placed.at.pair) refl

pub banks_in-end : banks_in (codes "END") ≡ None
unfolding banks_in
banks_in-end = refl
