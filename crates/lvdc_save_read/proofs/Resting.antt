-- Latches at rest: as far as they have come, they are at rest wherever all of them are.
use Rattle.std.proofs.Common.{◌≡◌, ℕ, zero, suc, ◌%◌, true, ◌==◌, List, [], ◌∷◌, take, refl, subst, inl, inr, arith}
use Rattle.std.specs.Prelude.{slice_index, ◌⊎◌}
use Rattle.std.specs.Int.{bit_at}
use Rattle.std.proofs.lemmas.Bool.{eqb-true, eq-eqb}
use Rattle.std.proofs.lemmas.Nat.Bits.{bit_at-zero}
use Rattle.lvdc_vote.specs.Bits.{TwoAre, majority}
use Rattle.lvdc_vote.proofs.Votes.{vote_bits, two_map}
use Rattle.lvdc_save.specs.Reading.{latch_at, is_at_rest}
use Rattle.lvdc_save_read.proofs.Following.{both_are}
use Rattle.lvdc_save.proofs.Below.{both}

-- ---- a vote whose words are cut to 0

-- a latch, or the 0 that stands for it
abbrev IsCut : ℕ → ℕ → Type 0
IsCut cut word = (cut ≡ word) ⊎ (cut ≡ 0)

-- a bit that is 0 stays so
bit_cut : (cut word i : ℕ) → IsCut cut word → bit_at word i ≡ 0 → bit_at cut i ≡ 0
bit_cut cut word i (inl same) low = rw same low
bit_cut cut word i (inr none) low = rw none (bit_at-zero i)

vote_bit : (a b c i : ℕ) → TwoAre (bit_at a i) (bit_at b i) (bit_at c i) (bit_at (majority a b c) i)
vote_bit a b c i = vote_bits (a ∷ []) (b ∷ []) (c ∷ []) refl refl 0 i

-- two values that are each held by two of three are one
one_value : (a b c x y : ℕ) → TwoAre a b c x → TwoAre a b c y → y ≡ x
one_value a b c x y (inl p) (inl q) = cc
one_value a b c x y (inl p) (inr (inl q)) = cc
one_value a b c x y (inl p) (inr (inr q)) = cc
one_value a b c x y (inr (inl p)) (inl q) = cc
one_value a b c x y (inr (inl p)) (inr (inl q)) = cc
one_value a b c x y (inr (inl p)) (inr (inr q)) = cc
one_value a b c x y (inr (inr p)) (inl q) = cc
one_value a b c x y (inr (inr p)) (inr (inl q)) = cc
one_value a b c x y (inr (inr p)) (inr (inr q)) = cc

-- nor does the vote have that bit
bit_of_vote : (a b c x y z i : ℕ) → IsCut x a → IsCut y b → IsCut z c → bit_at (majority a b c) i ≡ 0 → bit_at (majority x y z) i ≡ 0
bit_of_vote a b c x y z i one two three low =
    let zeros : TwoAre (bit_at a i) (bit_at b i) (bit_at c i) 0 =
    subst (TwoAre (bit_at a i) (bit_at b i) (bit_at c i)) low (vote_bit a b c i) in
    one_value (bit_at x i) (bit_at y i) (bit_at z i) 0 (bit_at (majority x y z) i)
    (two_map (bit_cut x a i one) (bit_cut y b i two) (bit_cut z c i three) zeros) (vote_bit x y z i)

-- 0 modulo 4, by the two lowest bits
low_bits : (n : ℕ) → n % 4 ≡ 0 → (bit_at n 0 ≡ 0) × (bit_at n 1 ≡ 0)
low_bits n low = (omega arith, omega arith)

from_bits : (n : ℕ) → bit_at n 0 ≡ 0 → bit_at n 1 ≡ 0 → n % 4 ≡ 0
from_bits n zeroth first = omega arith

vote_cut : (a b c x y z : ℕ) → IsCut x a → IsCut y b → IsCut z c → majority a b c % 4 ≡ 0 → majority x y z % 4 ≡ 0
vote_cut a b c x y z one two three low =
    let bits = low_bits (majority a b c) low in
    from_bits (majority x y z) (bit_of_vote a b c x y z 0 one two three bits.0) (bit_of_vote a b c x y z 1 one two three bits.1)

-- ---- the first latches of all

latch_cut : (latches : List ℕ) (n i : ℕ) → IsCut (slice_index (take n latches) i) (slice_index latches i)
latch_cut latches zero i = inr refl
latch_cut [] (suc n) i = inl refl
latch_cut (latch ∷ latches) (suc n) zero = inl refl
latch_cut (latch ∷ latches) (suc n) (suc i) = latch_cut latches n i

-- the vote of three latches, as far as they have come
vote_rests : (latches : List ℕ) (n i j k : ℕ) → (majority (latch_at latches i) (latch_at latches j) (latch_at latches k) % 4 == 0) ≡ true
    → (majority (latch_at (take n latches) i) (latch_at (take n latches) j) (latch_at (take n latches) k) % 4 == 0) ≡ true
vote_rests latches n i j k rest =
    let first = take n latches in
    eq-eqb _ 0
    (vote_cut (latch_at latches i) (latch_at latches j) (latch_at latches k) (latch_at first i) (latch_at first j) (latch_at first k)
    (latch_cut latches n i) (latch_cut latches n j) (latch_cut latches n k) (eqb-true _ 0 rest))

-- where all latches are at rest, so are the first of them
pub first_rest : (latches : List ℕ) (n : ℕ) → is_at_rest latches ≡ true → is_at_rest (take n latches) ≡ true
first_rest latches n rest =
    let parts = both (_) (_) rest in
    both_are (_) (_) (vote_rests latches n 0 2 4 parts.0) (vote_rests latches n 39 41 43 parts.1)
