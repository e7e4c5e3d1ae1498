-- Votes of lists: what two equal ones of three give, bit by bit and whole.
use Rattle.std.proofs.Common.{◌≡◌, ℕ, zero, suc, List, [], ◌∷◌, length, refl, sym, ◌∙◌, ap, subst, arith, inl, inr, Bool, true, false, not}
use Rattle.std.specs.Prelude.{slice_index}
use Rattle.std.specs.Int.{bit_at}
use Rattle.std.specs.Bool.{Decides}
use Rattle.std.proofs.lemmas.Slice.Eq.{compares_Decides}
use Rattle.lvdc_vote.proofs.BitLaws.{majority-bits, majority-first, majority-ends, majority-last}
use Rattle.lvdc_vote.specs.Latches.{majority_of, same_words}
use Rattle.lvdc_vote.specs.Bits.{TwoAre, AtLeastTwo}

-- two equal lists of three give that list
pub majority_of-first : (xs zs : List ℕ) → length zs ≡ length xs → majority_of xs xs zs ≡ xs
majority_of-first [] [] h = refl
majority_of-first [] (z ∷ zs) h = refl
majority_of-first (x ∷ xs) [] h = cc
majority_of-first (x ∷ xs) (z ∷ zs) h =
    rw (majority-first x z) (ap (λ (ws : List ℕ). x ∷ ws) (majority_of-first xs zs (omega arith)))

pub majority_of-ends : (xs ys : List ℕ) → length ys ≡ length xs → majority_of xs ys xs ≡ xs
majority_of-ends [] [] h = refl
majority_of-ends [] (y ∷ ys) h = refl
majority_of-ends (x ∷ xs) [] h = cc
majority_of-ends (x ∷ xs) (y ∷ ys) h =
    rw (majority-ends x y) (ap (λ (ws : List ℕ). x ∷ ws) (majority_of-ends xs ys (omega arith)))

pub majority_of-last : (xs ys : List ℕ) → length xs ≡ length ys → majority_of xs ys ys ≡ ys
majority_of-last [] [] h = refl
majority_of-last (x ∷ xs) [] h = refl
majority_of-last [] (y ∷ ys) h = cc
majority_of-last (x ∷ xs) (y ∷ ys) h =
    rw (majority-last x y) (ap (λ (ws : List ℕ). y ∷ ws) (majority_of-last xs ys (omega arith)))

-- where at least two of three lists as long as s are s, the vote is s
pub two_vote : (xs ys zs s : List ℕ) → length xs ≡ length s → length ys ≡ length s → length zs ≡ length s → TwoAre xs ys zs s → majority_of xs ys zs ≡ s
two_vote xs ys zs s lx ly lz (inl p) = rw (p.0, p.1) (majority_of-first s zs lz)
two_vote xs ys zs s lx ly lz (inr (inl p)) = rw (p.0, p.1) (majority_of-ends s ys ly)
two_vote xs ys zs s lx ly lz (inr (inr p)) = rw (p.0, p.1) (majority_of-last xs s lx)

-- each bit of each word of the vote is the value that at least two of the three lists have there
pub vote_bits : (xs ys zs : List ℕ) → length ys ≡ length xs → length zs ≡ length xs → (index i : ℕ) → TwoAre (bit_at (slice_index xs index) i) (bit_at (slice_index ys index) i) (bit_at (slice_index zs index) i) (bit_at (slice_index (majority_of xs ys zs) index) i)
vote_bits [] [] [] hy hz index i = inl (refl, refl)
vote_bits (x ∷ xs) (y ∷ ys) (z ∷ zs) hy hz zero i = majority-bits x y z i
vote_bits (x ∷ xs) (y ∷ ys) (z ∷ zs) hy hz (suc index) i = vote_bits xs ys zs (omega arith) (omega arith) index i
vote_bits (x ∷ xs) (y ∷ ys) [] hy hz index i = cc
vote_bits (x ∷ xs) [] zs hy hz index i = cc
vote_bits [] (y ∷ ys) zs hy hz index i = cc
vote_bits [] [] (z ∷ zs) hy hz index i = cc

-- the test says whether the lists are equal
pub same_words-Decides : (xs ys : List ℕ) → Decides (same_words xs ys) (xs ≡ ys)
same_words-Decides = compares_Decides same_words (search Rattle.std.proofs.Common.rules)

-- two tests of one fact are equal
pub same_tests : {P : Type 0} (a b : Bool) → Decides a P → Decides b P → a ≡ b
same_tests true true h k = refl
same_tests false false h k = refl
same_tests true false h k = sym (k.1 (h.0 refl))
same_tests false true h k = h.1 (k.0 refl)

-- what follows from each of three facts follows from two
pub two_map : {P Q R P' Q' R' : Type 0} → (P → P') → (Q → Q') → (R → R') → AtLeastTwo P Q R → AtLeastTwo P' Q' R'
two_map f g h (inl p) = inl (f p.0, g p.1)
two_map f g h (inr (inl p)) = inr (inl (f p.0, h p.1))
two_map f g h (inr (inr p)) = inr (inr (g p.0, h p.1))
