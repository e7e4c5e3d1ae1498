-- A syllable is the code of its instruction, and an instruction is what its syllable says.
use Rattle.std.proofs.Common.{◌≡◌, ℕ, ◌+◌, ◌*◌, ◌/◌, ◌%◌, ◌^◌, ◌<◌, refl, ap, ◌∙◌, arith}
use borrow.Author.Count.{below_none, below_more}
use Rattle.lvdc_isa.specs.declared.op.Op.{Op}
use Rattle.lvdc_isa.specs.declared.instr.Instr.{Instr}
use Rattle.lvdc_isa.specs.Instr.{instr, operation, fourteen, operation_code, syllable_of, IsInstruction}

-- each meaning of code 14 has that code
fourteen_code : (address : ℕ) → operation_code (fourteen address) ≡ 14
fourteen_code address = grind arith

-- the code of what a code means is that code
code_again : (c address : ℕ) → c < 16 → operation_code (operation c address) ≡ c
code_again c address small =
    let P : ℕ → Type 0 = λ k. operation_code (operation k address) ≡ k in
    below_more P 15 (below_more P 14 (below_more P 13 (below_more P 12 (below_more P 11 (below_more P 10 (below_more P 9 (below_more P 8
    (below_more P 7 (below_more P 6 (below_more P 5 (below_more P 4 (below_more P 3 (below_more P 2 (below_more P 1 (below_more P 0
    (below_none P) refl) refl) refl) refl) refl) refl) refl) refl) refl) refl) refl) refl) refl) refl) (fourteen_code address)) refl c small

-- a syllable is an instruction
pub IsInstruction-instr : (s : ℕ) → s < 2 ^ 13 → IsInstruction (instr s)
IsInstruction-instr s small =
    let top : s / 2 ^ 9 < 16 = omega arith in
    record {
      nine_bits = omega arith;
      meant = ap (λ c. operation c (s % 2 ^ 9)) (code_again (s / 2 ^ 9) (s % 2 ^ 9) top);
    }

-- encoding what was decoded gives the syllable again
pub syllable_of-instr : (s : ℕ) → s < 2 ^ 13 → syllable_of (instr s) ≡ s
syllable_of-instr s small =
    let top : s / 2 ^ 9 < 16 = omega arith in
    ap (λ c. c * 2 ^ 9 + s % 2 ^ 9) (code_again (s / 2 ^ 9) (s % 2 ^ 9) top) ∙ omega arith

-- decoding what was encoded gives the instruction again
pub instr-syllable_of : (i : Instr) → IsInstruction i → instr (syllable_of i) ≡ i
instr-syllable_of i h =
    let nine : i.address < 2 ^ 9 = h.nine_bits in
    let top : syllable_of i / 2 ^ 9 ≡ operation_code i.op = omega arith in
    let low : syllable_of i % 2 ^ 9 ≡ i.address = omega arith in
    ap (λ c. the_instr (operation c (syllable_of i % 2 ^ 9)) (syllable_of i % 2 ^ 9)) top
    ∙ ap (λ a. the_instr (operation (operation_code i.op) a) a) low
    ∙ ap (λ o. the_instr o i.address) h.meant
  where
    the_instr : Op → ℕ → Instr
    the_instr o a = record { op = o; address = a }
