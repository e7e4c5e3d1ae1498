-- How many times of a run are made of a script before its row is told.
use Rattle.std.specs.Prelude.{◌≡◌, ℕ, ◌*◌, ◌<◌, ◌≤◌, List}
use Rattle.lvdc_fault.specs.declared.event.Event.{Event}
use Rattle.lvdc_fault.specs.declared.verdict.Verdict.TheVariants.{Admissible}
use Rattle.lvdc_laws_runs.specs.Joined.{AllEndBefore, AllSpareMemory}
use Rattle.lvdc_model.specs.Judging.{first_bad}
use Rattle.lvdc_model.specs.Runs.{through}
use Rattle.lvdc_model.specs.Trial.{Trial}

-- so many times of the count: all of them, or fewer where no event is on memory and none is left behind them
pub record IsWindow (script : List Event) (times count : ℕ) : Type 0 where
  pub within : times ≤ count
  pub spares : times < count → AllSpareMemory script
  pub over : times < count → AllEndBefore (3 * times) script

-- the run through every fault tells after so many times what it tells after the count, and no step of the count is inadmissible
pub record TellsAll (o : Trial) (times count : ℕ) : Type 0 where
  pub admissible : first_bad o count ≡ Admissible
  pub counts : (through o (3 * times)).counts ≡ (through o (3 * count)).counts
  pub repairs : (through o (3 * times)).repairs ≡ (through o (3 * count)).repairs
