-- That a script does nothing to a copy.
use Rattle.std.specs.Prelude.{◌≡◌, ℕ, false, List, []}
use Rattle.lvdc_fault.specs.Script.{is_deaf}
use Rattle.lvdc_fault.specs.declared.event.Event.{Event}
use Rattle.lvdc_fault.specs.Hurts.{hurts_on}

-- a script does nothing to a copy of a module in a step, both counted from 1
pub record IsUntouched (script : List Event) (step number copy : ℕ) : Type 0 where
  pub heard : is_deaf script step number copy ≡ false
  pub unhurt : hurts_on step number copy script ≡ []
