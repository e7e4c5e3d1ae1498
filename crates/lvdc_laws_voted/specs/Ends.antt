-- What whole runs of the guarded machine come to.
use Rattle.std.specs.Prelude.{◌≡◌, ◌≢◌, ℕ, suc, length, ◌+◌, ◌-◌, ◌*◌, ◌/◌, ◌%◌, ◌<◌, ◌≤◌, List}
use Rattle.std.specs.declared.option.Option.{Option}
use Rattle.std.specs.declared.option.Option.TheVariants.{None, Some}
use Rattle.lvdc_port.specs.Devices.{HoldWords}
use Rattle.lvdc_modules.specs.Rows.{start_latches}
use Rattle.lvdc_plain.specs.Plain.{PlainState}
use Rattle.lvdc_plain.specs.Run.{run}
use Rattle.lvdc_plain.specs.declared.records.Stop.{Stop}
use Rattle.lvdc_fault.specs.declared.verdict.Verdict.TheVariants.{Admissible}
use Rattle.lvdc_laws_phases.specs.Exchanges.{exchange_in}
use Rattle.lvdc_laws_phases.specs.States.{ShowsRegisters}
use Rattle.lvdc_model.specs.declared.outcome.Outcome.{Outcome}
use Rattle.lvdc_model.specs.declared.outcome.Outcome.TheVariants.{Inadmissible, Stopped}
use Rattle.lvdc_model.specs.Trial.{Trial, plain_at, plain_in, plugged_in}
use Rattle.lvdc_model.specs.Voted.{Voted, votes}
use Rattle.lvdc_model.specs.Exchanges.{begin_step, with_end, wished}
use Rattle.lvdc_model.specs.Judging.{first_bad_below}
use Rattle.lvdc_model.specs.Runs.{guarded, own_verdict}
use Rattle.lvdc_laws_voted.specs.Cells.{StoresDamaged}
use Rattle.lvdc_laws_voted.specs.Relation.{Follows}

-- the states at the start stand for the start of the plain run, and the devices hold words
pub record Opens (Stands : ℕ → List (List ℕ) → PlainState → Type 0) (o : Trial) : Type 0 where
  pub stands : Stands 0 (start_latches o.opening.start) (plain_at o 0)
  pub words : HoldWords o.opening.devices

-- after so many whole times the machine shows the registers, the words, the log and the devices of the plain run
pub record ShowsTimes (o : Trial) (times : ℕ) (v : Voted) : Type 0 where
  pub registers : ShowsRegisters (votes v) (plain_at o times)
  pub intended : v.intended ≡ (plain_at o times).memory
  pub log : v.log ≡ (plain_at o times).log
  pub devices : v.devices ≡ (run o.opening times).devices

-- the end of the voted machine by the stop of the plain run, which made so many times: it comes in the last step of the last
-- of them
abbrev pub stop_end : Option Stop → ℕ → Option Outcome
stop_end None times = None
stop_end (Some why) times = Some (Stopped (3 * times - 1) why)

-- a step is begun: its devices are unplugged and its cells damaged, and all else is the plain run's
pub record IsBegun (o : Trial) (step : ℕ) (v : Voted) : Type 0 where
  pub steps : v.steps ≡ step
  pub registers : ShowsRegisters (votes v) (plain_in o step)
  pub cells : StoresDamaged o step v.twins
  pub intended : v.intended ≡ (plain_in o step).memory
  pub log : v.log ≡ (plain_in o step).log
  pub devices : v.devices ≡ plugged_in o step
  pub few : length v.repairs ≤ step - step / 3
  pub wish : wished o v ≡ exchange_in (step % 3) (plain_in o step)

-- step n is the first that is not admissible: the run has come to it, finds the verdict by itself, ends with it once the step
-- is begun, and stays so
pub record EndsAt (o : Trial) (n : ℕ) : Type 0 where
  pub came : (guarded o n).end ≡ None
  pub steps : (guarded o n).steps ≡ n
  pub begun : IsBegun o n (begin_step o (guarded o n))
  pub bad : first_bad_below o (suc n) ≢ Admissible
  pub found : own_verdict o (begin_step o (guarded o n)) ≡ first_bad_below o (suc n)
  pub ends : guarded o (suc n) ≡ with_end (begin_step o (guarded o n)) (Inadmissible (first_bad_below o (suc n)))
  pub stays : (m : ℕ) → guarded o (m + suc n) ≡ guarded o (suc n)

-- after n steps: no step was inadmissible, or the run has ended at the first one that was
pub data Comes (Stands : ℕ → List (List ℕ) → PlainState → Type 0) (o : Trial) (n : ℕ) : Type 0 where
  Good : first_bad_below o n ≡ Admissible → Follows Stands o n (guarded o n) → Comes Stands o n
  Bad : (m : ℕ) → m < n → first_bad_below o n ≡ first_bad_below o (suc m) → guarded o n ≡ guarded o (suc m) → EndsAt o m → Comes Stands o n
