use Rattle.std.proofs.Common.{◌≡◌, ℕ, ◌<◌, ◌≤◌, length}
use Rattle.lvdc_forces.specs.Parts.{share_then}
use Rattle.lvdc_forces.specs.Shares.{share_at}
use Rattle.lvdc_forces.proofs.parts.add_shares.Given as goal

abbrev pub invariant-loop-number : goal.invariant-loop-number
invariant-loop-number l =
    record {
      count : length l.shares ≡ 21;
      shares : (n : ℕ) → n < l.number → share_at l.shares n ≡ share_then (share_at l.fn.shares n) (share_at l.later n);
      others : (n : ℕ) → l.number ≤ n → share_at l.shares n ≡ share_at l.fn.shares n;
    }
