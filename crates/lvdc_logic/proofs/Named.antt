-- What three copies latch of which one is named, or none, and how often they differ then.
use Rattle.std.proofs.Common.{◌≡◌, ℕ, ◌+◌, Bool, true, false, if◌then◌else◌, List, [], ◌∷◌, length, Some, None, refl, arith, add-zero}
use Rattle.std.specs.Prelude.{slice_index, slice_set}
use mir.Val.{bool_byte}
use Rattle.lvdc_word.specs.Word.{bit_of}
use Rattle.lvdc_vote.specs.Copies.{Copies, settled, differs_of}
use Rattle.lvdc_vote.specs.Harms.{harmed, harmed_by}
use Rattle.lvdc_vote.specs.declared.harm.Harm.{Harm}
use Rattle.lvdc_model.specs.Voted.{counted_three}
use Rattle.lvdc_forces.specs.InForce.{faults_at, mark_at}
use Rattle.lvdc_forces.specs.declared.in_force.InForce.{InForce}
use Rattle.lvdc_logic.specs.Harmed.{three_harmed}

-- a truth value as a number
pub byte-is : (b : Bool) → bool_byte b ≡ bit_of b
byte-is true = refl
byte-is false = refl

-- no copy is named
pub none-named : (f : InForce) (first : ℕ) (t : Copies) (next : List ℕ) → false ≡ mark_at f.marks first → false ≡ mark_at f.marks (first + 1)
    → false ≡ mark_at f.marks (first + 2) → settled next next next ≡ three_harmed f first t next
none-named f first t next one two three = λ i.
    settled
    (harmed_by (if one i then Some (faults_at f.copies first).harm else None) t.one next)
    (harmed_by (if two i then Some (faults_at f.copies (first + 1)).harm else None) t.two next)
    (harmed_by (if three i then Some (faults_at f.copies (first + 2)).harm else None) t.three next)

-- the first copy is
pub one-named : (f : InForce) (first : ℕ) (t : Copies) (next : List ℕ) → true ≡ mark_at f.marks first → false ≡ mark_at f.marks (first + 1)
    → false ≡ mark_at f.marks (first + 2) → (harm : Harm) → harm ≡ (faults_at f.copies first).harm → settled (harmed t.one next harm) next next ≡ three_harmed f first t next
one-named f first t next one two three harm is = λ i.
    settled
    (harmed_by (if one i then Some (is i) else None) t.one next)
    (harmed_by (if two i then Some (faults_at f.copies (first + 1)).harm else None) t.two next)
    (harmed_by (if three i then Some (faults_at f.copies (first + 2)).harm else None) t.three next)

-- the second copy is
pub two-named : (f : InForce) (first : ℕ) (t : Copies) (next : List ℕ) → false ≡ mark_at f.marks first → true ≡ mark_at f.marks (first + 1)
    → false ≡ mark_at f.marks (first + 2) → (harm : Harm) → harm ≡ (faults_at f.copies (first + 1)).harm → settled next (harmed t.two next harm) next ≡ three_harmed f first t next
two-named f first t next one two three harm is = λ i.
    settled
    (harmed_by (if one i then Some (faults_at f.copies first).harm else None) t.one next)
    (harmed_by (if two i then Some (is i) else None) t.two next)
    (harmed_by (if three i then Some (faults_at f.copies (first + 2)).harm else None) t.three next)

-- the third copy is
pub three-named : (f : InForce) (first : ℕ) (t : Copies) (next : List ℕ) → false ≡ mark_at f.marks first → false ≡ mark_at f.marks (first + 1)
    → true ≡ mark_at f.marks (first + 2) → (harm : Harm) → harm ≡ (faults_at f.copies (first + 2)).harm → settled next next (harmed t.three next harm) ≡ three_harmed f first t next
three-named f first t next one two three harm is = λ i.
    settled
    (harmed_by (if one i then Some (faults_at f.copies first).harm else None) t.one next)
    (harmed_by (if two i then Some (faults_at f.copies (first + 1)).harm else None) t.two next)
    (harmed_by (if three i then Some (is i) else None) t.three next)

-- the first copy alone may differ
pub one-counted : (t : Copies) (counts : List ℕ) (n : ℕ) → length counts ≡ 3 → n ≡ bit_of (differs_of t 0) → differs_of t 1 ≡ false → differs_of t 2 ≡ false
    → slice_set counts 0 (slice_index counts 0 + n) ≡ counted_three t counts
one-counted t (a ∷ b ∷ c ∷ []) n size is two three = rw (is, two, three, add-zero b, add-zero c) refl
one-counted t [] n size is two three = absurd (omega (arith, size))
one-counted t (a ∷ []) n size is two three = absurd (omega (arith, size))
one-counted t (a ∷ b ∷ []) n size is two three = absurd (omega (arith, size))
one-counted t (a ∷ b ∷ c ∷ d ∷ counts) n size is two three = absurd (omega (arith, size))

-- the second copy alone
pub two-counted : (t : Copies) (counts : List ℕ) (n : ℕ) → length counts ≡ 3 → n ≡ bit_of (differs_of t 1) → differs_of t 0 ≡ false → differs_of t 2 ≡ false
    → slice_set counts 1 (slice_index counts 1 + n) ≡ counted_three t counts
two-counted t (a ∷ b ∷ c ∷ []) n size is one three = rw (is, one, three, add-zero a, add-zero c) refl
two-counted t [] n size is one three = absurd (omega (arith, size))
two-counted t (a ∷ []) n size is one three = absurd (omega (arith, size))
two-counted t (a ∷ b ∷ []) n size is one three = absurd (omega (arith, size))
two-counted t (a ∷ b ∷ c ∷ d ∷ counts) n size is one three = absurd (omega (arith, size))

-- the third copy alone
pub three-counted : (t : Copies) (counts : List ℕ) (n : ℕ) → length counts ≡ 3 → n ≡ bit_of (differs_of t 2) → differs_of t 0 ≡ false → differs_of t 1 ≡ false
    → slice_set counts 2 (slice_index counts 2 + n) ≡ counted_three t counts
three-counted t (a ∷ b ∷ c ∷ []) n size is one two = rw (is, one, two, add-zero a, add-zero b) refl
three-counted t [] n size is one two = absurd (omega (arith, size))
three-counted t (a ∷ []) n size is one two = absurd (omega (arith, size))
three-counted t (a ∷ b ∷ []) n size is one two = absurd (omega (arith, size))
three-counted t (a ∷ b ∷ c ∷ d ∷ counts) n size is one two = absurd (omega (arith, size))
