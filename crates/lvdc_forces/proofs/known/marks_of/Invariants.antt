use Rattle.std.proofs.Common.{◌≡◌, ℕ, ◌<◌, length}
use Rattle.lvdc_forces.specs.InForce.{mark_at}
use Rattle.lvdc_forces.specs.Shares.{share_at}
use Rattle.lvdc_forces.proofs.known.marks_of.Given as goal

abbrev pub invariant-loop-number : goal.invariant-loop-number
invariant-loop-number l =
    record {
      count : length l.marks ≡ 21;
      marks : (n : ℕ) → n < l.number → mark_at l.marks n ≡ (share_at l.shares n).named;
    }
