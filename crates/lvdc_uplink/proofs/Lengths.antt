-- How long an answer is.
use Rattle.std.proofs.Common.{ℕ, ◌^◌, ◌<◌, ◌≤◌, length, arith}
use Rattle.std.specs.Prelude.{decimal}
use Rattle.std.proofs.lemmas.Fmt.{length-decimal-le}

-- a number of 32 bits has at most ten digits
pub length-number : (n : ℕ) → n < 2 ^ 32 → length (decimal n) ≤ 10
length-number n small = length-decimal-le 10 n (omega arith) (omega (arith, small)) (omega (arith, small))
