-- The limits of a script, and the numbers of an event in their ranges.
use Rattle.std.specs.Prelude.{ℕ, ◌<◌, ◌≤◌, ◌^◌}
use Rattle.lvdc_map.specs.Banks.{IsPlace}
use Rattle.lvdc_vote.specs.Numbers.{latches_of}
use Rattle.lvdc_fault.specs.declared.event.Event.{Event}
use Rattle.lvdc_fault.specs.declared.event.Event.TheVariants.{Flip, Force, Lag, Deaf, Damage, Stick, Dead}

-- the most instruction times of a run
abbrev pub TIMES : ℕ
TIMES = 1000000

-- the first step that no event names, three for each time
abbrev pub STEPS : ℕ
STEPS = 3000000

-- the most events of a script
abbrev pub EVENTS : ℕ
EVENTS = 65536

-- a copy of a module
pub record IsCopy (number copy : ℕ) : Type 0 where
  pub first_module : 1 ≤ number
  pub last_module : number < 8
  pub first_copy : 1 ≤ copy
  pub last_copy : copy < 4

-- the first and the last step of an event
pub record IsSpan (first last : ℕ) : Type 0 where
  pub in_order : first ≤ last
  pub below : last < STEPS

-- all numbers of an event are in their ranges
abbrev pub IsEvent : Event → Type 0
IsEvent (Flip number copy first last index mask) = IsCopy number copy × IsSpan first last × (index < latches_of number) × (mask < 2 ^ 26)
IsEvent (Force number copy first last index mask value) =
    IsCopy number copy × IsSpan first last × (index < latches_of number) × (mask < 2 ^ 26) × (value < 2 ^ 26)
IsEvent (Lag number copy first last) = IsCopy number copy × IsSpan first last
IsEvent (Deaf number copy first last) = IsCopy number copy × IsSpan first last
IsEvent (Damage twin at step mask) = (twin < 2) × IsPlace at × (step < STEPS) × (mask < 2 ^ 28)
IsEvent (Stick twin at first last mask value) = (twin < 2) × IsPlace at × IsSpan first last × (mask < 2 ^ 28) × (value < 2 ^ 28)
IsEvent (Dead twin pair first last) = (twin < 2) × (pair < 4) × IsSpan first last
