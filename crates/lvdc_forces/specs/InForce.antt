-- What is in force on each of the 21 copies: what the active events of a step come to. Copy n is copy n % 3 of module n / 3, both
-- counted from 0.
use Rattle.std.specs.Prelude.{◌≡◌, ℕ, ◌+◌, ◌/◌, ◌%◌, ◌<◌, Bool, false, ◌&&◌, if◌then◌else◌, Option, Some, None, List, replicate, slice_index_or}
use Rattle.std.specs.List.{list_any}
use Rattle.lvdc_vote.specs.Harms.{no_harm, harm_of}
use Rattle.lvdc_vote.specs.declared.harm.Harm.{Harm}
use Rattle.lvdc_fault.specs.Script.{is_deaf}
use Rattle.lvdc_fault.specs.declared.event.Event.{Event}
use Rattle.lvdc_fault.specs.Hurts.{hurts_on}
use Rattle.lvdc_forces.specs.Untouched.{IsUntouched}
use Rattle.lvdc_forces.specs.declared.in_force.Faults.{Faults}
use Rattle.lvdc_forces.specs.declared.in_force.InForce.{InForce}

-- nothing is in force on a copy
abbrev pub no_faults : Faults
no_faults = record { deaf = false; harm = no_harm }

-- what is in force on a copy, by its number
abbrev pub faults_at : List Faults → ℕ → Faults
faults_at copies n = slice_index_or copies n no_faults

-- nothing is in force
abbrev pub nothing_in_force : InForce
nothing_in_force = record { any = false; deaf = false; marks = replicate 21 false; copies = replicate 21 no_faults }

-- whether a copy is marked, by its number
abbrev pub mark_at : List Bool → ℕ → Bool
mark_at marks n = slice_index_or marks n false

-- what is wrong with a copy that is marked, by its number; nothing where it isn't
abbrev pub harm_on : InForce → ℕ → Option Harm
harm_on f n = if mark_at f.marks n then Some (faults_at f.copies n).harm else None

-- whether a copy is named by what is in force: any is, and it is marked
abbrev pub is_named : InForce → ℕ → Bool
is_named f n = f.any && mark_at f.marks n

-- what a script has in force on a copy in a step
abbrev pub faults_on : List Event → ℕ → ℕ → Faults
faults_on script step n =
    record {
      deaf = is_deaf script step (n / 3 + 1) (n % 3 + 1);
      harm = harm_of (hurts_on step (n / 3 + 1) (n % 3 + 1) script);
    }

-- this is in force in a step of a script: on each copy what the script does to it, where a copy isn't named, nothing, and whether any
-- is deaf
pub record IsInForce (script : List Event) (step : ℕ) (f : InForce) : Type 0 where
  pub deaf : f.deaf ≡ list_any (λ c. c.deaf) f.copies
  pub copies : (n : ℕ) → n < 21 → faults_at f.copies n ≡ faults_on script step n
  pub others : (n : ℕ) → n < 21 → is_named f n ≡ false → IsUntouched script step (n / 3 + 1) (n % 3 + 1)
