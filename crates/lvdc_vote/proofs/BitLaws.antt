-- What the formulas of the majority, of turned and of forced bits give at each bit.
use Rattle.std.proofs.Common.{◌≡◌, ℕ, zero, suc, ◌+◌, ◌-◌, ◌%◌, ◌<◌, min, ◌∙◌, refl, inl, inr, arith}
use Rattle.std.specs.Prelude.{if◌then◌else◌, ◌==◌}
use Rattle.std.specs.Int.{bit_at}
use Rattle.std.proofs.lemmas.Nat.Bits.{bit_at_and, bit_at_xor, bit_at-lt, same_from_bits}
use Rattle.std.proofs.lemmas.Grind.{common_steps}
use Rattle.lvdc_word.proofs.Bits.{stuck_bits}
use Rattle.lvdc_vote.specs.Bits.{TwoAre, majority, flipped, forced}

-- ---- the majority

-- the value that at least two of three bits have
abbrev most_of : ℕ → ℕ → ℕ → ℕ
most_of x y z = if x == y then x else z

most_of_bits : (x y z : ℕ) → x < 2 → y < 2 → z < 2 → ((min x y + min x z) % 2 + min y z) % 2 ≡ most_of x y z
most_of_bits x y z hx hy hz = grind (arith, common_steps)

bit_at-majority : (a b c i : ℕ) → bit_at (majority a b c) i ≡ most_of (bit_at a i) (bit_at b i) (bit_at c i)
unfolding majority
bit_at-majority a b c i =
    simp (bit_at_xor, bit_at_and)
    (most_of_bits _ _ _ (bit_at-lt a i) (bit_at-lt b i) (bit_at-lt c i))

most_of_first : (x z : ℕ) → most_of x x z ≡ x
most_of_first x z = grind (arith, common_steps)

most_of_ends : (x y : ℕ) → most_of x y x ≡ x
most_of_ends x y = grind (arith, common_steps)

most_of_last : (x y : ℕ) → x < 2 → y < 2 → most_of x y y ≡ y
most_of_last x y hx hy = grind (arith, common_steps)

-- two of three bits have what most have
two_are_most : (x y z : ℕ) → x < 2 → y < 2 → z < 2 → TwoAre x y z (most_of x y z)
two_are_most zero zero z hx hy hz = inl (refl, refl)
two_are_most zero (suc zero) zero hx hy hz = inr (inl (refl, refl))
two_are_most zero (suc zero) (suc zero) hx hy hz = inr (inr (refl, refl))
two_are_most (suc zero) zero zero hx hy hz = inr (inr (refl, refl))
two_are_most (suc zero) zero (suc zero) hx hy hz = inr (inl (refl, refl))
two_are_most (suc zero) (suc zero) z hx hy hz = inl (refl, refl)
two_are_most zero (suc zero) (suc (suc z)) hx hy hz = absurd (omega arith)
two_are_most (suc zero) zero (suc (suc z)) hx hy hz = absurd (omega arith)
two_are_most zero (suc (suc y)) z hx hy hz = absurd (omega arith)
two_are_most (suc zero) (suc (suc y)) z hx hy hz = absurd (omega arith)
two_are_most (suc (suc x)) y z hx hy hz = absurd (omega arith)

-- each bit of the majority is the value that at least two of the three words have there
pub majority-bits : (a b c i : ℕ) → TwoAre (bit_at a i) (bit_at b i) (bit_at c i) (bit_at (majority a b c) i)
majority-bits a b c i = rw (bit_at-majority a b c i) (two_are_most _ _ _ (bit_at-lt a i) (bit_at-lt b i) (bit_at-lt c i))

-- two equal of three words give that word
pub majority-first : (a c : ℕ) → majority a a c ≡ a
majority-first a c = same_from_bits _ _ (λ i. bit_at-majority a a c i ∙ most_of_first (bit_at a i) (bit_at c i))

pub majority-ends : (a b : ℕ) → majority a b a ≡ a
majority-ends a b = same_from_bits _ _ (λ i. bit_at-majority a b a i ∙ most_of_ends (bit_at a i) (bit_at b i))

pub majority-last : (a b : ℕ) → majority a b b ≡ b
majority-last a b = same_from_bits _ _ (λ i. bit_at-majority a b b i ∙ most_of_last (bit_at a i) (bit_at b i) (bit_at-lt a i) (bit_at-lt b i))

-- ---- bits under a mask

flipped_bit : (x m : ℕ) → x < 2 → m < 2 → (x + m) % 2 ≡ if m == 1 then 1 - x else x
flipped_bit x m hx hm = grind (arith, common_steps)

-- the bits under the mask are turned over, and the others stay
pub bit_at-flipped : (w mask i : ℕ) → bit_at (flipped w mask) i ≡ if bit_at mask i == 1 then 1 - bit_at w i else bit_at w i
unfolding flipped
bit_at-flipped w mask i = simp bit_at_xor (flipped_bit _ _ (bit_at-lt w i) (bit_at-lt mask i))

-- the bits under the mask are those of the value, and the others stay
pub bit_at-forced : (w mask value i : ℕ) → bit_at (forced w mask value) i ≡ if bit_at mask i == 1 then bit_at value i else bit_at w i
unfolding forced
bit_at-forced w mask value i = stuck_bits w mask value i
