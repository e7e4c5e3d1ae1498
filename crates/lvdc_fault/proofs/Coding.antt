-- Words that are kept as their good cells.
use Rattle.std.proofs.Common.{◌≡◌, ℕ, ◌<◌, ◌^◌, Bool, true, false, cond, List, length, map, get_or, set, refl, sym, ap, ◌∙◌, arith}
use Rattle.std.specs.Prelude.{◌==◌}
use Rattle.std.proofs.lemmas.Bool.{eqb-true, eqb-false}
use Rattle.std.proofs.lemmas.List.{length-map, length-set, map-set, get_or-map, get_or-set_same, get_or-set_other}
use Rattle.lvdc_word.specs.Cell.{code_of, word_in}
use Rattle.lvdc_word.proofs.Parity.{word-code}
use Rattle.lvdc_map.specs.Address.{Spot, IsAddress, number_of}
use Rattle.lvdc_map.specs.Memory.{Memory, filled_with, stored, IsMemory}
use Rattle.lvdc_fault.specs.Codes.{AreCodes}
use Rattle.lvdc_fault.proofs.Placing.{number_test}

-- the word at a number is that of the cell there
pub word-there : (cells : List ℕ) (n : ℕ) → n < 32768 → AreCodes cells → word_in (get_or cells n 0) ≡ get_or (map word_in cells) n 0
word-there cells n small are = sym (get_or-map word_in cells n 0 0 (omega (arith, small, are.size)))

-- and the cell is the code of the word
pub code-there : (cells : List ℕ) (n : ℕ) → n < 32768 → AreCodes cells → get_or cells n 0 ≡ code_of (get_or (map word_in cells) n 0)
code-there cells n small are = sym (are.codes n small) ∙ ap code_of (word-there cells n small are)

-- ---- one word put

-- the code of a word is put where the word is
pub words-put : (cells : List ℕ) (n w : ℕ) → w < 2 ^ 26 → map word_in (set cells n (code_of w)) ≡ set (map word_in cells) n w
words-put cells n w small = map-set word_in cells n (code_of w) ∙ ap (set (map word_in cells) n) (word-code w small)

-- the cells are still codes
pub codes-put : (cells : List ℕ) (n w : ℕ) → w < 2 ^ 26 → n < 32768 → AreCodes cells → AreCodes (set cells n (code_of w))
codes-put cells n w small within are = record {
  size = length-set cells n (code_of w) ∙ are.size;
  codes = λ k less. by_case k less (k == n) refl;
}
  where
    by_case : (k : ℕ) → k < 32768 → (b : Bool) → (k == n) ≡ b → code_of (word_in (get_or (set cells n (code_of w)) k 0)) ≡ get_or (set cells n (code_of w)) k 0
    by_case k less true e =
        let here : get_or (set cells n (code_of w)) k 0 ≡ code_of w =
        ap (λ (i : ℕ). get_or (set cells n (code_of w)) i 0) (eqb-true k n e) ∙ get_or-set_same cells n (code_of w) 0 (omega (arith, within, are.size)) in
        ap (λ (cell : ℕ). code_of (word_in cell)) here ∙ ap code_of (word-code w small) ∙ sym here
    by_case k less false e =
        let other : get_or (set cells n (code_of w)) k 0 ≡ get_or cells k 0 = get_or-set_other cells n k (code_of w) 0 (eqb-false k n e) in
        ap (λ (cell : ℕ). code_of (word_in cell)) other ∙ are.codes k less ∙ sym other

-- a memory with one word more
pub memory-put : (words : List ℕ) (m : Memory) (at : Spot) (w : ℕ) → IsAddress at → IsMemory words m → IsMemory (set words (number_of at) w) (stored m at w)
memory-put words m at w here h = record {
  size = length-set words (number_of at) w ∙ h.size;
  same = λ other ok. by_case other ok (number_of other == number_of at) refl ∙ sym (ap (λ (b : Bool). cond b w (m other)) (number_test other at ok here));
}
  where
    by_case : (other : Spot) → IsAddress other → (b : Bool) → (number_of other == number_of at) ≡ b
        → get_or (set words (number_of at) w) (number_of other) 0 ≡ cond (number_of other == number_of at) w (m other)
    by_case other ok true e =
        ap (λ (k : ℕ). get_or (set words (number_of at) w) k 0) (eqb-true (number_of other) (number_of at) e)
        ∙ get_or-set_same words (number_of at) w 0 (omega (arith, here.pair, here.sector, here.loc, h.size))
        ∙ sym (ap (λ (b : Bool). cond b w (m other)) e)
    by_case other ok false e =
        get_or-set_other words (number_of at) (number_of other) w 0 (eqb-false (number_of other) (number_of at) e) ∙ h.same other ok
        ∙ sym (ap (λ (b : Bool). cond b w (m other)) e)

-- ---- the word 0 at every address

pub codes-zero : (cells : List ℕ) → length cells ≡ 32768 → ((place d : ℕ) → place < 32768 → get_or cells place d ≡ code_of 0) → AreCodes cells
codes-zero cells all here = record {
  size = all;
  codes = λ k less. ap (λ (cell : ℕ). code_of (word_in cell)) (here k 0 less) ∙ ap code_of (word-code 0 (omega arith)) ∙ sym (here k 0 less);
}

pub memory-zero : (cells : List ℕ) → length cells ≡ 32768 → ((place d : ℕ) → place < 32768 → get_or cells place d ≡ code_of 0)
    → IsMemory (map word_in cells) (filled_with 0)
memory-zero cells all here =
    let are = codes-zero cells all here in
    record {
      size = length-map cells word_in ∙ are.size;
      same = λ at ok.
          let small : number_of at < 32768 = omega (arith, ok.pair, ok.sector, ok.loc) in
          sym (word-there cells (number_of at) small are) ∙ ap word_in (here (number_of at) 0 small) ∙ word-code 0 (omega arith);
    }

-- a place with the code of 0 has the word 0
pub zero-word : (cells : List ℕ) (n : ℕ) → n < 32768 → AreCodes cells → get_or cells n 0 ≡ code_of 0 → get_or (map word_in cells) n 0 ≡ 0
zero-word cells n small are here = sym (word-there cells n small are) ∙ ap word_in here ∙ word-code 0 (omega arith)
