use Rattle.std.proofs.Common.{◌≡◌, ℕ, ◌<◌, ◌≤◌, length}
use Rattle.lvdc_forces.specs.Parts.{part_of_script, events_of_part, IsRightUntil}
use Rattle.lvdc_forces.proofs.forces.renew_all.Given as goal

abbrev pub invariant-loop-number : goal.invariant-loop-number
invariant-loop-number l =
    record {
      count : length l.parts.items ≡ length l.fn.parts.items;
      later : l.step < l.until;
      until : (k : ℕ) → k < l.number → l.until ≤ (part_of_script l.parts.items k).until;
      right : (k : ℕ) → k < l.number → IsRightUntil (events_of_part l.script k) l.at (part_of_script l.fn.parts.items k) → IsRightUntil (events_of_part l.script k) l.step (part_of_script l.parts.items k);
      others : (k : ℕ) → l.number ≤ k → part_of_script l.parts.items k ≡ part_of_script l.fn.parts.items k;
    }
