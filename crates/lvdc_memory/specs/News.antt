-- Which events change what is in force as a step begins.
use Rattle.std.specs.Prelude.{ℕ, Bool, false, not, ◌==◌, if◌then◌else◌, List, filter}
use Rattle.std.specs.declared.option.Option.{Option}
use Rattle.std.specs.declared.option.Option.TheVariants.{None, Some}
use Rattle.lvdc_fault.specs.Script.{is_active, is_within}
use Rattle.lvdc_fault.specs.declared.event.Event.{Event}
use Rattle.lvdc_fault.specs.declared.event.Event.TheVariants.{Damage}

-- is an event active at the step that is in force, if one is?
abbrev pub was_active : Option ℕ → Event → Bool
was_active None e = false
was_active (Some before) e = is_active before e

-- does an event change what is in force where a step comes after this one? Damage does at its step.
abbrev pub is_new : Option ℕ → ℕ → Event → Bool
is_new last step (Damage twin at t mask) = t == step
is_new last step e = if was_active last e then not (is_active step e) else is_active step e

-- those of a list that do
abbrev pub new_events : Option ℕ → ℕ → List Event → List Event
new_events last step events = filter (is_new last step) events

-- does the step that is in force, if one is, lie from the first to the last?
abbrev pub was_within : ℕ → ℕ → Option ℕ → Bool
was_within first last None = false
was_within first last (Some before) = is_within first last before
