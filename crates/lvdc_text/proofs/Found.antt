-- The first element that passes a test, looked for from the front on.
use Rattle.std.proofs.Common.{◌≡◌, ℕ, ◌<◌, Bool, true, false, nat_lt, List, length, get_or, None, Some, ap, ◌∙◌, arith}
use Rattle.std.specs.Bool.{if◌then◌else◌}
use Rattle.std.specs.List.{position, position_or_len}
use Rattle.std.proofs.lemmas.List.Sums.{position_or_len_is}

module _ {X : Type 0} (test : X → Bool) (xs : List X) (i : ℕ) (d : X) where
  by_place : (found : Bool) → position_or_len test xs ≡ i → nat_lt i (length xs) ≡ found → position test xs ≡ (if found then Some i else None)
  by_place found is within =
      ap (λ (n : ℕ). if nat_lt n (length xs) then Some n else None) is
      ∙ ap (λ (t : Bool). if t then Some i else None) within

  -- it is the first that passes the test
  pub place-here : i < length xs → ((k : ℕ) → k < i → test (get_or xs k d) ≡ false) → test (get_or xs i d) ≡ true → position test xs ≡ Some i
  place-here within before here =
      by_place true (position_or_len_is test xs i d (omega arith) before (λ _. here)) (grind arith)

  -- none passes
  pub place-none : length xs ≡ i → ((k : ℕ) → k < i → test (get_or xs k d) ≡ false) → position test xs ≡ None
  place-none all before =
      by_place false (position_or_len_is test xs i d (omega arith) before (λ (l : i < length xs). absurd (omega arith))) (grind arith)
