-- Why there is no row.
use Rattle.std.specs.Prelude.{◌≡◌, ℕ, ◌*◌, List, Contains}
use Rattle.std.specs.declared.option.Option.{Option}
use Rattle.std.specs.declared.option.Option.TheVariants.{Some}
use Rattle.lvdc_port.specs.Causes.{Rose}
use Rattle.lvdc_port.specs.Device.{Device}
use Rattle.lvdc_port.specs.Devices.{count_at}
use Rattle.lvdc_plain.specs.Run.{Opening}
use Rattle.lvdc_plain.specs.Stands as plain_run
use Rattle.lvdc_plain.specs.View.{View}
use Rattle.lvdc_plain.specs.declared.records.PlainEnd.{PlainEnd}
use Rattle.lvdc_plain.specs.declared.records.PlainEnd.TheVariants as plain
use Rattle.lvdc_fault.specs.declared.named.Named.{Named}
use Rattle.lvdc_model.specs.Trial.{Trial}
use Rattle.lvdc_model.specs.declared.outcome.Outcome.{Outcome}
use Rattle.lvdc_model.specs.declared.outcome.Outcome.TheVariants as voted
use Rattle.lvdc_machine.specs.Stands as voted_run
use Rattle.lvdc_machine.specs.declared.mode.Mode.{Mode}
use Rattle.lvdc_runs.specs.Scripts.{trial_under}
use Rattle.lvdc_study.specs.declared.fault.Unstudied.{Unstudied}
use Rattle.lvdc_study.specs.declared.fault.Unstudied.TheVariants as unstudied

-- ---- devices that are there

-- a device that is named has failed: its count of faults has risen in this list of devices, before and after
abbrev pub HasFailed : {B : Type 0} → (B → Device) → (B → ℕ) → Unstudied → List B → List B → Type 0
HasFailed device_of faults unstudied.NoMemory old new = Unit {0}
HasFailed device_of faults (unstudied.Device port) old new = Rose (count_at device_of faults port old) (count_at device_of faults port new)

-- the end is the failure of the device at this port
abbrev pub EndsIn : Option Outcome → ℕ → Type 0
EndsIn (Some (voted.Device step failed)) port = failed ≡ port
EndsIn _ port = ⊥

-- the same of the plain machine
abbrev pub EndsPlainlyIn : Option PlainEnd → ℕ → Type 0
EndsPlainlyIn (Some (plain.Device step failed)) port = failed ≡ port
EndsPlainlyIn _ port = ⊥

-- ---- devices in their first states, of a run that isn't seen

-- A bench makes the devices of a run and lets them go with it, so whoever asked has none left whose count of faults could be compared, and
-- a clause that only says that there are such devices holds of any port. So what follows says where a run comes to, and `HasFailed`, of
-- the calls that are lent the devices, that the device has failed.

-- a run of the voted machine comes in this step to an exchange with the device at this port
pub record Exchanges (o : Trial) (times step port : ℕ) : Type 0 where
  pub mode : Mode
  pub exchange : voted_run.HasFailed o (3 * times) mode step port

-- the same of the plain run
pub record ExchangesPlainly (opening : Opening) (times step port : ℕ) : Type 0 where
  pub machine : View
  pub left : List Device
  pub exchange : plain_run.HasFailed opening times machine left step port

-- why a script has no row: there was no memory, or a run under it comes to an exchange with the device that is named
abbrev pub FailsUnder : Trial → ℕ → Unstudied → Type 0
FailsUnder o times unstudied.NoMemory = Unit {0}
FailsUnder o times (unstudied.Device port) = (step : ℕ) × Exchanges o times step port

-- why there is no plain run
abbrev pub FailsPlainly : Opening → ℕ → Unstudied → Type 0
FailsPlainly opening times unstudied.NoMemory = Unit {0}
FailsPlainly opening times (unstudied.Device port) = (step : ℕ) × ExchangesPlainly opening times step port

-- a run of a study comes in this step to an exchange with the device at this port: the plain run, or a run under one of the scripts
pub data ExchangesInRuns (opening : Opening) (times : ℕ) (scripts : List Named) (step port : ℕ) : Type 0 where
  plainly : ExchangesPlainly opening times step port → ExchangesInRuns opening times scripts step port
  under : (named : Named) → Contains scripts named → Exchanges (trial_under opening named.script) times step port
      → ExchangesInRuns opening times scripts step port

-- why there are no rows
abbrev pub FailsInRuns : Opening → ℕ → List Named → Unstudied → Type 0
FailsInRuns opening times scripts unstudied.NoMemory = Unit {0}
FailsInRuns opening times scripts (unstudied.Device port) = (step : ℕ) × ExchangesInRuns opening times scripts step port
