-- When the voted machine stands for the plain run, step by step.
use Rattle.std.specs.Prelude.{◌≡◌, ℕ, zero, suc, ◌-◌, ◌/◌, ◌%◌, ◌≤◌, List, length}
use Rattle.std.specs.declared.option.Option.TheVariants.{None, Some}
use Rattle.lvdc_port.specs.Device.{Device}
use Rattle.lvdc_port.specs.Devices.{HoldWords}
use Rattle.lvdc_plain.specs.declared.records.Stop.{Stop}
use Rattle.lvdc_plain.specs.Plain.{PlainState}
use Rattle.lvdc_plain.specs.Run.{run}
use Rattle.lvdc_plain.specs.View.{ByInstruction}
use Rattle.lvdc_laws_phases.specs.States.{ShowsRegisters}
use Rattle.lvdc_model.specs.declared.outcome.Outcome.TheVariants.{Stopped}
use Rattle.lvdc_model.specs.Trial.{Trial, plain_in, plugged_in}
use Rattle.lvdc_model.specs.Voted.{Voted}
use Rattle.lvdc_laws_voted.specs.Copies.{Agree, wrong_before}
use Rattle.lvdc_laws_voted.specs.Cells.{StoresBefore}

-- by phase: before the first phase those of its time are still there
abbrev pub devices_by : ℕ → Trial → ℕ → List Device
devices_by zero o step = (run o.opening (step / 3)).devices
devices_by (suc phase) o step = plugged_in o step

-- the devices of the plain run before a step
abbrev pub devices_in : Trial → ℕ → List Device
devices_in o step = devices_by (step % 3) o step

-- before a step cells, intended words, log and devices are those of the plain run, and each time has left two repairs at most
pub record Matches (o : Trial) (step : ℕ) (v : Voted) : Type 0 where
  pub stores : StoresBefore o step v.twins
  pub intended : v.intended ≡ (plain_in o step).memory
  pub log : v.log ≡ (plain_in o step).log
  pub devices : v.devices ≡ devices_in o step
  pub few : length v.repairs ≤ step - step / 3

-- the copies that are not wrong are these states, which show the registers of the plain run
pub record ShowsPlain (o : Trial) (step : ℕ) (v : Voted) (states : List (List ℕ)) : Type 0 where
  pub agree : Agree (wrong_before o.script step) 1 v.copies states
  pub registers : ShowsRegisters states (plain_in o step)

-- before a step, as long as no end has come
pub record IsOnCourse (Stands : ℕ → List (List ℕ) → PlainState → Type 0) (o : Trial) (step : ℕ) (v : Voted) : Type 0 where
  pub going : v.end ≡ None
  pub running : (plain_in o step).stop ≡ None
  pub states : List (List ℕ)
  pub stands : Stands (step % 3) states (plain_in o step)
  pub shows : ShowsPlain o step v states
  pub matches : Matches o step v
  pub words : HoldWords v.devices

-- the run has stopped in the step before this one, as the plain run has
pub record Halted (o : Trial) (step : ℕ) (v : Voted) : Type 0 where
  pub why : Stop
  pub last : ℕ
  pub is_last : step ≡ suc last
  pub whole : step % 3 ≡ 0
  pub ended : v.end ≡ Some (Stopped last why)
  pub stopped : (plain_in o step).stop ≡ Some why
  pub times : (plain_in o step).times ≡ step / 3
  pub cause : ByInstruction (Some why)
  pub states : List (List ℕ)
  pub shows : ShowsPlain o step v states
  pub matches : Matches o step v

-- after n steps, none of which was inadmissible
pub data Follows (Stands : ℕ → List (List ℕ) → PlainState → Type 0) (o : Trial) (n : ℕ) (v : Voted) : Type 0 where
  Goes : v.steps ≡ n → IsOnCourse Stands o n v → Follows Stands o n v
  Halts : v.steps ≤ n → Halted o v.steps v → Follows Stands o n v
