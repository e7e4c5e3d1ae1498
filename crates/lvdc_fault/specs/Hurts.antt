-- What a script does to a copy as it latches.
use Rattle.std.specs.Prelude.{ℕ, List, [], ◌∷◌, ◌++◌, if◌then◌else◌}
use Rattle.lvdc_vote.specs.declared.hurt.Hurt.{Hurt}
use Rattle.lvdc_vote.specs.declared.hurt.Hurt.TheVariants as hurts
use Rattle.lvdc_fault.specs.Script.{acts_on}
use Rattle.lvdc_fault.specs.declared.event.Event.{Event}
use Rattle.lvdc_fault.specs.declared.event.Event.TheVariants.{Flip, Force, Lag}

-- what an event does to a copy as it latches
abbrev pub hurts_by : ℕ → ℕ → ℕ → Event → List Hurt
hurts_by step m c (Flip number copy first last index mask) = if acts_on number copy first last step m c then hurts.Flip index mask ∷ [] else []
hurts_by step m c (Force number copy first last index mask value) = if acts_on number copy first last step m c then hurts.Force index mask value ∷ [] else []
hurts_by step m c (Lag number copy first last) = if acts_on number copy first last step m c then hurts.Lag ∷ [] else []
hurts_by step m c _ = []

-- what a script does to a copy in a step, in its order
abbrev pub hurts_on : ℕ → ℕ → ℕ → List Event → List Hurt
hurts_on step m c [] = []
hurts_on step m c (e ∷ es) = hurts_by step m c e ++ hurts_on step m c es
