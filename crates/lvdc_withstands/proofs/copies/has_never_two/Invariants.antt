use Rattle.std.proofs.Common.{ℕ, ◌<◌, ◌≤◌}
use Rattle.lvdc_withstands.specs.Copies.{NeverTwoOf}
use Rattle.lvdc_withstands.proofs.copies.has_never_two.Given as goal

abbrev pub invariant-loop-number : goal.invariant-loop-number
invariant-loop-number l = (m : ℕ) → 1 ≤ m → m < l.number → NeverTwoOf l.lines m
