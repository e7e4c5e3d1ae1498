use Rattle.std.proofs.Common.{◌≡◌, ℕ, ◌<◌, length}
use Rattle.lvdc_forces.specs.InForce.{faults_at}
use Rattle.lvdc_forces.specs.Parts.{faults_in}
use Rattle.lvdc_forces.specs.Shares.{share_at}
use Rattle.lvdc_forces.proofs.known.copies_of.Given as goal

abbrev pub invariant-loop-number : goal.invariant-loop-number
invariant-loop-number l =
    record {
      count : length l.copies ≡ 21;
      copies : (n : ℕ) → n < l.number → faults_at l.copies n ≡ faults_in (share_at l.shares n);
    }
