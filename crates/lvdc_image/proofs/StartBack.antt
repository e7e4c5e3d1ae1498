-- A START line and its constant.
use Rattle.std.proofs.Common.{◌≡◌, ℕ, ◌%◌, ◌^◌, ◌<◌, Bool, ltb, eqb, ◌&&◌, ◌==◌, List, ◌++◌, codes, length, take, drop, Option, None, Some, Ok, Err, refl, sym, ap, ◌∙◌, arith, if◌then◌else◌}
use Rattle.std.specs.Str.{bytes_eq}
use Rattle.std.proofs.lemmas.Bool.{lt-ltb, ltb-true, eqb-true, eq-eqb}
use Rattle.std.proofs.lemmas.List.{take-append-drop}
use Rattle.std.proofs.lemmas.Slice.Eq.{bytes_eq-Decides}
use Rattle.lvdc_map.specs.Hop.{HopConstant, IsHopConstant, hop_of, word_of_hop}
use Rattle.lvdc_map.proofs.HopLaws.{word_of_hop-hop_of, hop_of-word_of_hop, word_of_hop-fits}
use Rattle.lvdc_text.specs.Numbers.{number_of, octal_text}
use Rattle.lvdc_text.proofs.ReadBack.{number_of-octal_text, length-octal_text}
use Rattle.lvdc_image.specs.declared.fault.ImageFault.TheVariants.{BadWord}
use Rattle.lvdc_image.specs.Image.{start_line}
use Rattle.lvdc_image.specs.Reading.{start_number, start_of}
use Rattle.lvdc_image.proofs.Parts.{both, some_if, ok_if}
use Rattle.lvdc_image.proofs.Digits.{octal_text-number_of}

word_of_hop-even : (start : HopConstant) → word_of_hop start % 2 ≡ 0
word_of_hop-even start = omega arith

-- the line of a start constant tells its word
pub start_number-start_line : (start : HopConstant) → IsHopConstant start → start_number (start_line start) ≡ Some (word_of_hop start)
start_number-start_line start ok =
    ap (λ (n : ℕ). if eqb n 9 then number_of 8 9 (octal_text 9 (word_of_hop start)) else None) (length-octal_text 9 (word_of_hop start))
    ∙ number_of-octal_text 9 9 (word_of_hop start) (omega arith) (omega arith) (omega (arith, word_of_hop-fits start ok))

pub start_of-again : (number : ℕ) (start : HopConstant) → IsHopConstant start → start_of number (Some (word_of_hop start)) ≡ Ok start
start_of-again number start ok =
    ap (λ (b : Bool). if b && (word_of_hop start % 2 == 0) then Ok (hop_of (word_of_hop start)) else Err (BadWord number)) (lt-ltb (word_of_hop start) (2 ^ 26) (word_of_hop-fits start ok))
    ∙ ap (λ (b : Bool). if b then Ok (hop_of (word_of_hop start)) else Err (BadWord number)) (eq-eqb (word_of_hop start % 2) 0 (word_of_hop-even start))
    ∙ ap (λ (h : HopConstant). Ok h) (hop_of-word_of_hop start ok)

start_number-text : (text : List ℕ) (value : ℕ) → start_number text ≡ Some value → text ≡ codes "START " ++ octal_text 9 value
start_number-text text value e =
    let found = some_if (bytes_eq (take 6 text) (codes "START ") && eqb (length (drop 6 text)) 9) (number_of 8 9 (drop 6 text)) value e in
    let tests = both (bytes_eq (take 6 text) (codes "START ")) (eqb (length (drop 6 text)) 9) found.0 in
    sym (take-append-drop 6 text)
    ∙ ap (λ (front : List ℕ). front ++ drop 6 text) ((bytes_eq-Decides (take 6 text) (codes "START ")).0 tests.0)
    ∙ ap (λ (back : List ℕ). codes "START " ++ back) (sym (octal_text-number_of 9 value (drop 6 text) (eqb-true (length (drop 6 text)) 9 tests.1) found.1))

start_value : (number value : ℕ) (start : HopConstant) → start_of number (Some value) ≡ Ok start → word_of_hop start ≡ value
start_value number value start e =
    let found = ok_if (ltb value (2 ^ 26) && eqb (value % 2) 0) (hop_of value) start (BadWord number) e in
    let tests = both (ltb value (2 ^ 26)) (eqb (value % 2) 0) found.0 in
    let small : value < 2 ^ 26 = ltb-true value (2 ^ 26) tests.0 in
    let even : value % 2 ≡ 0 = eqb-true (value % 2) 0 tests.1 in
    ap (λ (h : HopConstant). word_of_hop h) (sym found.1) ∙ word_of_hop-hop_of value small ∙ omega arith

by_number : (number : ℕ) (text : List ℕ) (read : Option ℕ) (start : HopConstant) → start_number text ≡ read → start_of number read ≡ Ok start → text ≡ start_line start
by_number number text None start r e = absurd (cc)
by_number number text (Some value) start r e =
    start_number-text text value r ∙ ap (λ (n : ℕ). codes "START " ++ octal_text 9 n) (sym (start_value number value start e))

-- a line that tells a start constant is its line
pub start_of-line : (number : ℕ) (text : List ℕ) (start : HopConstant) → start_of number (start_number text) ≡ Ok start → text ≡ start_line start
start_of-line number text start e = by_number number text (start_number text) start refl e
