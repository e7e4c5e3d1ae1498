-- What a machine that goes through every fault tells where its run has rejoined the plain run.
use Rattle.std.specs.Prelude.{◌≡◌, ℕ, ◌*◌, false, List}
use Rattle.std.specs.declared.option.Option.{Option}
use Rattle.std.specs.declared.option.Option.TheVariants.{None, Some}
use Rattle.lvdc_port.specs.Device.{Device}
use Rattle.lvdc_plain.specs.Run.{IsOpening}
use Rattle.lvdc_fault.specs.declared.verdict.Verdict.{Verdict}
use Rattle.lvdc_fault.specs.declared.verdict.Verdict.TheVariants.{Admissible}
use Rattle.lvdc_model.specs.Judging.{first_bad}
use Rattle.lvdc_model.specs.Runs.{through}
use Rattle.lvdc_model.specs.Trial.{Trial}
use Rattle.lvdc_model.specs.Voted.{Voted}
use Rattle.lvdc_model.specs.declared.outcome.Outcome.{Outcome}
use Rattle.lvdc_model.specs.declared.outcome.Outcome.TheVariants.{Inadmissible}
use Rattle.lvdc_machine.specs.Resumed.{StandsFrom}
use Rattle.lvdc_machine.specs.Stands.{Stands}
use Rattle.lvdc_machine.specs.Steps.{run_from}
use Rattle.lvdc_machine.specs.View.{View}
use Rattle.lvdc_machine.specs.declared.mode.Mode.{Mode}
use Rattle.lvdc_machine.specs.declared.mode.Mode.TheVariants.{Guarded, Through}
use Rattle.lvdc_runs.specs.Ran.{NoneFailed}
use Rattle.lvdc_study.specs.declared.row.Row.{Row}
use Rattle.lvdc_study.specs.Outcomes.{first_difference}
use Rattle.lvdc_study.specs.Study.{row_with}

-- a machine that goes through every fault stands after so many steps of a trial, over these devices that are left, of which none has
-- failed, and it may make so many times in all
pub record GoesOn (o : Trial) (steps times : ℕ) (m : View) (left : List Device) : Type 0 where
  pub opening : IsOpening o.opening
  pub mode_is : m.mode ≡ Through
  pub limit : m.limit ≡ times
  pub stands : Stands o steps m left
  pub unfailed : NoneFailed m.end

-- a machine has counted and repaired what the run through every fault has in so many times, which then comes to what the plain run comes to
pub record TellsRejoined (o : Trial) (times : ℕ) (m : View) : Type 0 where
  pub difference : first_difference o times ≡ None
  pub counts : m.counts ≡ (through o (3 * times)).counts
  pub repairs : m.repairs ≡ (through o (3 * times)).repairs

-- ---- over whatever devices

-- by how a machine goes through its script: as long as it judges nothing was said, and once it goes through every fault this was said
-- against a step, with which the run that judges has ended
abbrev pub HasSaid : Mode → Verdict → Option Outcome → Type 0
HasSaid Guarded verdict end = verdict ≡ Admissible
HasSaid Through verdict end = end ≡ Some (Inadmissible verdict)

-- a machine stands so many steps of a trial behind a state, over these devices, and neither has ended; this was said against a step on the
-- way
pub record Replays (o : Trial) (first : Voted) (n : ℕ) (verdict : Verdict) (m : View) (devices : List Device) : Type 0 where
  pub begins : first.end ≡ None
  pub stands : StandsFrom o first n m devices
  pub going : m.end ≡ None
  pub said : HasSaid m.mode verdict (run_from Guarded o first n).end

-- it does so of some trial
pub record IsReplay (verdict : Verdict) (m : View) (devices : List Device) : Type 0 where
  pub trial : Trial
  pub first : Voted
  pub n : ℕ
  pub replays : Replays trial first n verdict m devices

-- a machine tells what the run through every fault comes to, and this is the verdict of the first step that isn't admissible
pub record TellsMisled (o : Trial) (times : ℕ) (said : Verdict) (m : View) : Type 0 where
  pub rejoined : TellsRejoined o times m
  pub verdict : said ≡ first_bad o times

-- a row of this name tells it, as that of a script that doesn't mask by form
pub record RowTellsMisled (o : Trial) (times : ℕ) (name : List ℕ) (row : Row) : Type 0 where
  pub said : Verdict
  pub machine : View
  pub tells : TellsMisled o times said machine
  pub told : row ≡ row_with name said None machine.counts machine.repairs false
