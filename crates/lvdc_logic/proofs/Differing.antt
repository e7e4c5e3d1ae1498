-- How far counts rise in a step.
use Rattle.std.proofs.Common.{replicate, ◌≡◌, ℕ, zero, suc, ◌+◌, ◌-◌, ◌≤◌, Bool, true, false, not, ◌&&◌, List, [], ◌∷◌, length, refl, add-zero, subst, arith}
use Rattle.std.specs.Prelude.{slice_index, slice_index_or}
use Rattle.std.proofs.lemmas.Bool.{false≢true}
use Rattle.lvdc_word.specs.Word.{bit_of}
use Rattle.lvdc_vote.specs.Copies.{Copies, differs_of}
use Rattle.lvdc_model.specs.Voted.{counted, counted_three}
use Rattle.lvdc_logic.specs.Logic.{DifferedAtMost}

-- the same of modules and copies numbered from 0
pub at_most : (most : ℕ) (counts : List (List ℕ)) → DifferedAtMost most counts → (i k : ℕ) → slice_index (slice_index_or counts i []) k ≤ most
at_most most counts h i k =
    let a : i + 1 - 1 ≡ i = omega arith in
    let b : k + 1 - 1 ≡ k = omega arith in
    subst (λ n. slice_index (slice_index_or counts n []) k ≤ most) a
    (subst (λ n. slice_index (slice_index_or counts (i + 1 - 1) []) n ≤ most) b (h (i + 1) (k + 1)))

-- one count
one_at_most : (b : Bool) (n most : ℕ) → n ≤ most → n + bit_of b ≤ most + 1
one_at_most true n most h = omega (arith, h)
one_at_most false n most h = omega (arith, h)

-- the counts of a module
three_at_most : (most : ℕ) (t : Copies) (three : List ℕ) → ((k : ℕ) → slice_index three k ≤ most) → (k : ℕ) → slice_index (counted_three t three) k ≤ most + 1
three_at_most most t three h zero = one_at_most (differs_of t 0) (slice_index three 0) most (h 0)
three_at_most most t three h (suc zero) = one_at_most (differs_of t 1) (slice_index three 1) most (h 1)
three_at_most most t three h (suc (suc zero)) = one_at_most (differs_of t 2) (slice_index three 2) most (h 2)
three_at_most most t three h (suc (suc (suc k))) = omega arith

-- those of all modules
all_at_most : (most : ℕ) (ts : List Copies) (counts : List (List ℕ)) → ((i k : ℕ) → slice_index (slice_index_or counts i []) k ≤ most) → (i k : ℕ) → slice_index (slice_index_or (counted ts counts) i []) k ≤ most + 1
all_at_most most [] counts h i k = omega arith
all_at_most most (t ∷ ts) [] h i k = omega arith
all_at_most most (t ∷ ts) (three ∷ counts) h zero k = three_at_most most t three (h 0) k
all_at_most most (t ∷ ts) (three ∷ counts) h (suc i) k = all_at_most most ts counts (λ j. h (suc j)) i k

-- a step raises each count by at most one
pub counted_at_most : (most : ℕ) (ts : List Copies) (counts : List (List ℕ)) → DifferedAtMost most counts → DifferedAtMost (most + 1) (counted ts counts)
counted_at_most most ts counts h number copy = all_at_most most ts counts (at_most most counts h) (number - 1) (copy - 1)

-- three false conditions
all_false : (a b c : Bool) → (not a && not b && not c) ≡ true → (a ≡ false) × ((b ≡ false) × (c ≡ false))
all_false false false false h = (refl, (refl, refl))
all_false true b c h = absurd (false≢true h)
all_false false true c h = absurd (false≢true h)
all_false false false true h = absurd (false≢true h)

-- where no copy of a module differs, its counts stay
pub unanimous_counted : (t : Copies) (counts : List ℕ) → length counts ≡ 3 → (not (differs_of t 0) && not (differs_of t 1) && not (differs_of t 2)) ≡ true → counts ≡ counted_three t counts
unanimous_counted t (a ∷ b ∷ c ∷ []) size h =
    let none = all_false (differs_of t 0) (differs_of t 1) (differs_of t 2) h in
    rw (none.0, none.1.0, none.1.1, add-zero a, add-zero b, add-zero c) refl
unanimous_counted t [] size h = absurd (omega (arith, size))
unanimous_counted t (a ∷ []) size h = absurd (omega (arith, size))
unanimous_counted t (a ∷ b ∷ []) size h = absurd (omega (arith, size))
unanimous_counted t (a ∷ b ∷ c ∷ d ∷ counts) size h = absurd (omega (arith, size))

-- nor where none is said to
pub agreed_counted : (t : Copies) (counts : List ℕ) → length counts ≡ 3 → ((c : ℕ) → differs_of t c ≡ false) → counts ≡ counted_three t counts
agreed_counted t counts size none = unanimous_counted t counts size (rw (none 0, none 1, none 2) refl)

-- no copy that has not differed
zero_at : (k : ℕ) → slice_index (0 ∷ 0 ∷ 0 ∷ []) k ≤ 0
zero_at zero = omega arith
zero_at (suc zero) = omega arith
zero_at (suc (suc zero)) = omega arith
zero_at (suc (suc (suc k))) = omega arith

pub none_differed : (modules i k : ℕ) → slice_index (slice_index_or (replicate modules (0 ∷ 0 ∷ 0 ∷ [])) i []) k ≤ 0
none_differed zero i k = omega arith
none_differed (suc modules) zero k = zero_at k
none_differed (suc modules) (suc i) k = none_differed modules i k
