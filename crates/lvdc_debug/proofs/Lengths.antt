-- How many latches a module has at most.
use Rattle.std.proofs.Common.{ℕ, zero, suc, ◌<◌, ◌≤◌, arith}
use Rattle.lvdc_vote.specs.Numbers.{latches_of}

pub few-latches : (number : ℕ) → number < 8 → latches_of number ≤ 5
few-latches zero h = omega arith
few-latches (suc zero) h = omega arith
few-latches (suc (suc zero)) h = omega arith
few-latches (suc (suc (suc zero))) h = omega arith
few-latches (suc (suc (suc (suc zero)))) h = omega arith
few-latches (suc (suc (suc (suc (suc zero))))) h = omega arith
few-latches (suc (suc (suc (suc (suc (suc zero)))))) h = omega arith
few-latches (suc (suc (suc (suc (suc (suc (suc zero))))))) h = omega arith
few-latches (suc (suc (suc (suc (suc (suc (suc (suc n)))))))) h = absurd (omega (arith, h))
