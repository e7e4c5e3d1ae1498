-- The fields of a line, by their places.
use Rattle.std.proofs.Common.{◌≡◌, ℕ, ◌<◌, ◌≤◌, true, ltb, ltb-true, arith}

-- a line with enough fields has one at each place below
pub is-there : (place most fields : ℕ) → ltb place most ≡ true → most ≤ fields → place < fields
is-there place most fields below long =
    let less = ltb-true place most below in omega arith
