-- So many parts, and the numbers of the events of each.
use Rattle.std.proofs.Common.{◌≡◌, ℕ, ◌<◌, ◌≤◌, length}
use Rattle.lvdc_memory.specs.Parts.{events_of, part_at, IsWithin}
use Rattle.lvdc_memory.proofs.parts.parts_of.Given as goal

abbrev pub invariant-loop-number : goal.invariant-loop-number
invariant-loop-number l = record {
  few : l.number ≤ l.count;
  count : length l.parts.items ≡ l.number;
  within : (k : ℕ) → k < l.number → IsWithin (events_of l.events k) (part_at l.parts.items k);
}
