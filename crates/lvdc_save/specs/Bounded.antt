-- How long a saved text may be.
use Rattle.std.specs.Prelude.{ℕ, ◌+◌, ◌*◌, ◌≤◌, All, length}
use Rattle.lvdc_fault.specs.Events.{TIMES, EVENTS, IsEvent}
use Rattle.lvdc_save.specs.declared.saved.Saved.{Saved}

-- each step has brought one exchange or one repair at most, the devices together hold so many words, and the rest is within the
-- limits of a deck
pub record IsBounded (words : ℕ) (s : Saved) : Type 0 where
  pub steps : s.snapshot.steps ≤ 3 * TIMES
  pub count : s.count ≤ TIMES
  pub noted : length s.snapshot.log + length s.snapshot.repairs ≤ s.snapshot.steps
  pub states : length s.states ≤ words
  pub unplugs : length s.unplugs ≤ 256
  pub times : All (λ unplug. unplug.time ≤ TIMES) s.unplugs
  pub few : length s.script ≤ EVENTS
  pub events : All IsEvent s.script
