use Rattle.std.proofs.Common.{ℕ, ◌≡◌, ◌<◌, ◌≤◌, ◌⊎◌, inl, inr, false, get_or, arith}
use Rattle.std.proofs.lemmas.Bool.{cases_lt}
use Rattle.std.proofs.lemmas.List.{get_or_past}
use Rattle.lvdc_withstands.proofs.places.no_marks.Goals as goal

pub returns-clause-none : goal.returns-clause-none
returns-clause-none c k = by_order (cases_lt k 32768)
  where
    by_order : (k < 32768) ⊎ (32768 ≤ k) → get_or c.in_ok-marks.marks.items k false ≡ false
    by_order (inl small) = c.in_ok-marks.ensures.all k false small
    by_order (inr large) =
        let size = c.in_ok-marks.ensures.size in
        get_or_past c.in_ok-marks.marks.items k false (omega (arith, size, large))
