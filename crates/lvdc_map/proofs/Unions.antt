-- Which pairs are simplex in a union of banks, and that no bank goes.
use Rattle.std.proofs.Common.{◌≡◌, ℕ, zero, suc, ◌-◌, ◌<◌, max, Bool, true, false, ◌||◌, ◌==◌, nat_lt, refl, sym, ap, ◌∙◌, arith, bit_or}
use Rattle.std.proofs.lemmas.Bool.{true≢false}
use Rattle.std.proofs.lemmas.Nat.{or_lt}
use Rattle.std.specs.Int.{bit_at}
use Rattle.std.proofs.lemmas.Nat.Bits.{bit_at_or, bit_at-lt}
use Rattle.lvdc_map.specs.Address.{Spot}
use Rattle.lvdc_map.specs.Banks.{is_simplex, is_there, union}

pub union_is_small : (one other : ℕ) → one < 16 → other < 16 → bit_or one other < 16
union_is_small one other small less = or_lt 4 one other small less

-- the greater of two bits
of_two : (a b : ℕ) → a < 2 → b < 2 → (max a b == 1) ≡ (a == 1 || b == 1)
of_two zero zero small less = refl
of_two zero (suc zero) small less = refl
of_two (suc zero) zero small less = refl
of_two (suc zero) (suc zero) small less = refl
of_two (suc (suc a)) b small less = absurd (omega (arith, small))
of_two a (suc (suc b)) small less = absurd (omega (arith, less))

pub simplex_in_either : (one other pair : ℕ) → is_simplex (union one other) pair ≡ (is_simplex one pair || is_simplex other pair)
simplex_in_either one other pair =
    ap (λ bit. bit == 1) (bit_at_or one other pair)
    ∙ of_two (bit_at one pair) (bit_at other pair) (bit_at-lt one pair) (bit_at-lt other pair)

by_bank : (low first second : Bool) → (low || first) ≡ true → (low || (first || second)) ≡ true
by_bank true first second there = refl
by_bank false true second there = refl
by_bank false false second there = absurd (true≢false (sym there))

pub there_in_union : (one other : ℕ) (at : Spot) → is_there one at ≡ true → is_there (union one other) at ≡ true
there_in_union one other at there =
    ap (λ simplex. nat_lt at.pair 4 || simplex) (simplex_in_either one other (at.pair - 4))
    ∙ by_bank (nat_lt at.pair 4) (is_simplex one (at.pair - 4)) (is_simplex other (at.pair - 4)) there
