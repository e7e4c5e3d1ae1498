-- The parts so far are right, and the others as they were.
use Rattle.std.proofs.Common.{◌≡◌, ◌≢◌, ℕ, ◌<◌, ◌≤◌, [], length}
use Rattle.std.specs.Prelude.{IfSome}
use Rattle.lvdc_memory.specs.News.{new_events}
use Rattle.lvdc_memory.specs.Parts.{part_at, events_of, IsRight, IsWithin}
use Rattle.lvdc_memory.proofs.parts.renew_all.Given as goal

abbrev pub invariant-loop-number : goal.invariant-loop-number
invariant-loop-number l = record {
  count : length l.parts ≡ length l.fn.parts;
  until : (k : ℕ) → k < l.number → l.until ≤ (part_at l.parts k).until;
  within : (k : ℕ) → k < l.number → IsWithin (events_of l.events k) (part_at l.fn.parts k) → IsWithin (events_of l.events k) (part_at l.parts k);
  right : (k : ℕ) → k < l.number → IfSome l.last (λ at. IsRight (events_of l.events k) at (part_at l.fn.parts k)) → IsRight (events_of l.events k) l.step (part_at l.parts k);
  new : (k : ℕ) → k < l.number → (part_at l.parts k).since ≢ l.step → IfSome l.last (λ at. IsRight (events_of l.events k) at (part_at l.fn.parts k))
      → new_events l.last l.step (events_of l.events k) ≡ [];
  others : (k : ℕ) → l.number ≤ k → part_at l.parts k ≡ part_at l.fn.parts k;
}
