-- What the statuses of a resumed run come from.
use Rattle.std.specs.Prelude.{◌≡◌, ℕ, List, Ok}
use Rattle.std.specs.declared.option.Option.{Option}
use Rattle.std.specs.declared.option.Option.TheVariants.{None, Some}
use Rattle.lvdc_port.specs.Device as device
use Rattle.lvdc_model.specs.declared.outcome.Outcome.{Outcome}
use Rattle.lvdc_model.specs.declared.outcome.Outcome.TheVariants.{Done, Stopped, Inadmissible, Device}
use Rattle.lvdc_save.specs.Reading.{saved_of}
use Rattle.lvdc_save.specs.declared.saved.Saved.{Saved}
use Rattle.lvdc_command_resume.specs.Runs.{last_state}

-- the end is a step that isn't admissible
abbrev pub IsInadmissible : Option Outcome → Type 0
IsInadmissible None = ⊥
IsInadmissible (Some Done) = ⊥
IsInadmissible (Some (Stopped step stop)) = ⊥
IsInadmissible (Some (Inadmissible verdict)) = Unit {0}
IsInadmissible (Some (Device step port)) = ⊥

-- over these bytes and devices a saved run goes on, and this is so of its end
pub record HasResumeThat (Q : Option Outcome → Type 0) (bytes : List ℕ) (devices : List device.Device) : Type 0 where
  pub saved : Saved
  pub means : saved_of devices bytes ≡ Ok saved
  pub comes : Q (last_state saved devices).end
