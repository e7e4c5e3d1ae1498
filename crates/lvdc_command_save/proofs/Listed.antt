-- Latches and counts that stand one after another are the list that they were taken from.
use Rattle.std.proofs.Common.{◌≡◌, ℕ, zero, suc, ◌+◌, ◌*◌, List, [], ◌∷◌, ◌++◌, length, refl, sym, ap, ◌∙◌, arith, append_assoc, zero-add, add-zero}
use Rattle.std.specs.Prelude.{slice_index}
use Rattle.std.specs.List.{concat}
use Rattle.lvdc_model.specs.Listing.{items_at, copies_from, copies_of, counts_from, counts_of}
use Rattle.lvdc_command_save.specs.Snapshots.{latches_in}

-- so many items, and the next ones
items-join : (xs : List ℕ) (from n m : ℕ) → items_at xs from n ++ items_at xs (from + n) m ≡ items_at xs from (n + m)
items-join xs from zero m = ap (λ (k : ℕ). items_at xs k m) (add-zero from) ∙ ap (items_at xs from) (sym (zero-add m))
items-join xs from (suc n) m =
    let next : from + suc n ≡ suc from + n = omega arith in
    let all : suc (n + m) ≡ suc n + m = omega arith in
    ap (λ (k : ℕ). slice_index xs from ∷ items_at xs (suc from) n ++ items_at xs k m) next
    ∙ ap (λ (ys : List ℕ). slice_index xs from ∷ ys) (items-join xs (suc from) n m)
    ∙ ap (items_at xs from) all

-- items after the first are items of the rest
items-rest : (x : ℕ) (xs : List ℕ) (from n : ℕ) → items_at (x ∷ xs) (suc from) n ≡ items_at xs from n
items-rest x xs from zero = refl
items-rest x xs from (suc n) = ap (λ ys. slice_index xs from ∷ ys) (items-rest x xs (suc from) n)

-- all items
items-all : (xs : List ℕ) → items_at xs 0 (length xs) ≡ xs
items-all [] = refl
items-all (x ∷ xs) = ap (λ ys. x ∷ ys) (items-rest x xs 0 (length xs) ∙ items-all xs)

-- ---- latches

-- how many latches three copies of modules of these sizes have
abbrev thrice : List ℕ → ℕ
thrice [] = 0
thrice (n ∷ sizes) = n + (n + (n + thrice sizes))

latches-are : (latches : List ℕ) (from : ℕ) (sizes : List ℕ) → latches_in (copies_from latches from sizes) ≡ items_at latches from (thrice sizes)
latches-are latches from [] = refl
latches-are latches from (n ∷ sizes) =
    let one = items_at latches from n in
    let two = items_at latches (from + n) n in
    let three = items_at latches (from + n + n) n in
    ap (λ (rest : List ℕ). one ++ two ++ three ++ rest) (latches-are latches (from + n + n + n) sizes)
    ∙ append_assoc (one ++ two) three (items_at latches (from + n + n + n) (thrice sizes))
    ∙ ap (λ (rest : List ℕ). (one ++ two) ++ rest) (items-join latches (from + n + n) n (thrice sizes))
    ∙ append_assoc one two (items_at latches (from + n + n) (n + thrice sizes))
    ∙ ap (λ (rest : List ℕ). one ++ rest) (items-join latches (from + n) n (n + thrice sizes))
    ∙ items-join latches from n (n + (n + thrice sizes))

pub latches_listed : (latches : List ℕ) → length latches ≡ 45 → latches_in (copies_of latches) ≡ latches
latches_listed latches size =
    latches-are latches 0 (2 ∷ 2 ∷ 1 ∷ 1 ∷ 2 ∷ 5 ∷ 2 ∷ []) ∙ ap (items_at latches 0) (sym size) ∙ items-all latches

-- ---- counts

counts-are : (counts : List ℕ) (from n : ℕ) → concat (counts_from counts from n) ≡ items_at counts from (n * 3)
counts-are counts from zero = refl
counts-are counts from (suc n) =
    ap (λ (rest : List ℕ). items_at counts from 3 ++ rest) (counts-are counts (from + 3) n)
    ∙ items-join counts from 3 (n * 3) ∙ ap (items_at counts from) (more n)
  where
    more : (n : ℕ) → 3 + n * 3 ≡ suc n * 3
    more n = omega arith

pub counts_listed : (counts : List ℕ) → length counts ≡ 21 → concat (counts_of counts) ≡ counts
counts_listed counts size = counts-are counts 0 7 ∙ ap (items_at counts 0) (sym size) ∙ items-all counts
