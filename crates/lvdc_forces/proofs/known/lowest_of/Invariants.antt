use Rattle.std.proofs.Common.{◌≡◌, ℕ, ◌<◌, ◌≤◌, false}
use Rattle.lvdc_forces.proofs.PartLaws.{two_marked}
use Rattle.lvdc_forces.proofs.known.lowest_of.Given as goal

abbrev pub invariant-loop-number : goal.invariant-loop-number
invariant-loop-number l = (m : ℕ) → 1 ≤ m → m < l.number → two_marked l.marks m ≡ false
