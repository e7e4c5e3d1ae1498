use Rattle.std.proofs.Common.{◌≡◌, ℕ, ◌<◌, length}
use Rattle.lvdc_forces.specs.Parts.{total_of}
use Rattle.lvdc_forces.specs.Shares.{share_at}
use Rattle.lvdc_forces.proofs.known.totals.Given as goal

abbrev pub invariant-loop-part : goal.invariant-loop-part
invariant-loop-part l =
    record {
      count : length l.shares ≡ 21;
      shares : (n : ℕ) → n < 21 → share_at l.shares n ≡ total_of l.parts n l.part-index;
    }
