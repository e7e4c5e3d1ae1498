-- A script in parts of 256 events: what each part does to each copy, and for how long; and what is known of all copies by that.
use Rattle.std.specs.Prelude.{◌≡◌, ℕ, zero, suc, false, ◌+◌, ◌*◌, ◌/◌, ◌%◌, ◌≤◌, ◌<◌, if◌then◌else◌, List, length, take, drop, replicate, slice_index_or, refl}
use Rattle.lvdc_fault.specs.Script.{makes_wrong, is_wrong, wrong_module}
use Rattle.lvdc_fault.specs.declared.event.Event.{Event}
use Rattle.lvdc_forces.specs.InForce.{no_faults, mark_at, IsInForce}
use Rattle.lvdc_forces.specs.Shares.{no_share, harm_in, share_at, share_of, share_join}
use Rattle.lvdc_forces.specs.declared.shares.Share.{Share}
use Rattle.lvdc_forces.specs.declared.in_force.Faults.{Faults}
use Rattle.lvdc_forces.specs.declared.part.Part.{Part}
use Rattle.lvdc_forces.specs.declared.known.Known.{Known}
use Rattle.lvdc_forces.specs.declared.forces.Forces.{Forces}

-- an event acts on the same copies at each step from one up to another
abbrev pub StaysUntil : ℕ → ℕ → Event → Type 0
StaysUntil step until e = (t m c : ℕ) → step ≤ t → t < until → makes_wrong t m c e ≡ makes_wrong step m c e

-- nothing is known of a part
abbrev pub no_part : Part
no_part = record { until = 0; names_any = false; shares = replicate 21 no_share; told = refl }

-- a part by its number
abbrev pub part_of_script : List Part → ℕ → Part
part_of_script parts k = slice_index_or parts k no_part

-- the events of a part of a script, by its number
abbrev pub events_of_part : List Event → ℕ → List Event
events_of_part script k = take 256 (drop (256 * k) script)

-- what is told of a part is right at each step from one up to that at which one of its events begins or has ended
abbrev pub IsRightUntil : List Event → ℕ → Part → Type 0
IsRightUntil es step p = (n t : ℕ) → n < 21 → step ≤ t → t < p.until → share_at p.shares n ≡ share_of es t n

-- what is done to a copy, and what comes after it, if that names the copy
abbrev pub share_then : Share → Share → Share
share_then a b = if b.named then share_join a b else a

-- what so many parts do to copy n
abbrev pub total_of : List Part → ℕ → ℕ → Share
total_of parts n zero = no_share
total_of parts n (suc k) = share_then (total_of parts n k) (share_at (part_of_script parts k).shares n)

-- what is in force on a copy by what is done to it
abbrev pub faults_in : Share → Faults
faults_in s = if s.named then record { deaf = s.deaf; harm = harm_in s } else no_faults

-- what is known is what a script does in a step: what is in force on each copy, which copies are wrong, and which module has two
pub record IsRightAt (script : List Event) (step : ℕ) (k : Known) : Type 0 where
  pub force : IsInForce script step k.force
  pub marks : (n : ℕ) → n < 21 → mark_at k.force.marks n ≡ is_wrong script step (n / 3 + 1) (n % 3 + 1)
  pub wrong : k.wrong ≡ wrong_module script step

-- the parts are those of a script, each is right from the step on that was last, and what is known is so up to the first step at
-- which an event begins or has ended
pub record AreForces (script : List Event) (f : Forces) : Type 0 where
  pub whole : length script ≤ 256 * length f.parts.items
  pub few : 256 * length f.parts.items ≤ length script + 256
  pub parts : (k : ℕ) → k < length f.parts.items → IsRightUntil (events_of_part script k) f.at (part_of_script f.parts.items k)
  pub known : (t : ℕ) → f.at ≤ t → t < f.until → IsRightAt script t f.known
