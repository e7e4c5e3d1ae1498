-- The working latches of the arithmetic unit.
use Rattle.std.specs.Prelude.{ℕ}

-- CONTROL; M, the multiplicand or divisor; H, the upper part of the product or the remainder; Q, the multiplier or the quotient
pub record Latches : Type 0 where
  pub control : ℕ
  pub m : ℕ
  pub h : ℕ
  pub q : ℕ
