use Rattle.std.proofs.Common.{◌≡◌, ℕ, ◌+◌, ◌-◌, ◌/◌, ◌%◌, ◌<◌, ◌≤◌, take, drop}
use Rattle.lvdc_forces.specs.Shares.{share_at, share_on}
use Rattle.lvdc_forces.proofs.parts.shares_of.Given as goal

-- what the events passed so far do to each copy
abbrev pub invariant-loop-position : goal.invariant-loop-position
invariant-loop-position l =
    record {
      from : l.from ≤ l.position;
      to : l.position ≤ l.to;
      shares : (n : ℕ) → n < 21 → share_at l.shares n ≡ share_on (take (l.position - l.from) (drop l.from l.script)) l.step (n / 3 + 1) (n % 3 + 1);
    }
