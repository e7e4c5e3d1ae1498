-- What holds of all numbers below a bound, by a test of each.
use Rattle.std.proofs.Common.{◌≡◌, ℕ, zero, suc, ◌<◌, ◌≤◌, Bool, true, false, eqb, ◌&&◌, refl, arith}
use Rattle.std.specs.Prelude.{nat_le}
use Rattle.std.proofs.lemmas.Bool.{eqb-true, leb-true}
use Rattle.std.proofs.lemmas.Bool.Decides.{nat_tests}
use Rattle.lvdc_vote.specs.Numbers.{latches_of}

unfoldable pub all_below : (ℕ → Bool) → ℕ → Bool
all_below p zero = true
all_below p (suc n) = p n && all_below p n

pub both : (a b : Bool) → (a && b) ≡ true → (a ≡ true) × (b ≡ true)
both true true e = (refl, refl)
both true false e = absurd cc
both false b e = absurd cc

below_step : (p : ℕ → Bool) (n i : ℕ) → (i < n → p i ≡ true) → p n ≡ true → i < suc n → (same : Bool) → eqb i n ≡ same → p i ≡ true
below_step p n i later here l true e = rw (eqb-true i n e) here
below_step p n i later here l false e = later (grind (arith, nat_tests))

pub from_all_below : (p : ℕ → Bool) (n i : ℕ) → all_below p n ≡ true → i < n → p i ≡ true
unfolding all_below
from_all_below p zero i all l = absurd (omega arith)
from_all_below p (suc n) i all l =
    let parts = both (p n) (all_below p n) all in
    below_step p n i (λ less. from_all_below p n i parts.1 less) parts.0 l (eqb i n) refl

-- ---- the latches of a module

latches_low : ℕ → Bool
latches_low number = nat_le (latches_of number) 5

all_low : all_below latches_low 8 ≡ true
unfolding all_below latches_low
all_low = refl

-- a module has five latches at most
pub few_latches : (number : ℕ) → number < 8 → latches_of number ≤ 5
unfolding latches_low
few_latches number l = leb-true (latches_of number) 5 (from_all_below latches_low 8 number all_low l)
