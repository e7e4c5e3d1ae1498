-- What machines come to in whole runs.
use Rattle.std.specs.Prelude.{◌≡◌, ℕ, ◌*◌, List}
use Rattle.std.specs.declared.option.Option.{Option}
use Rattle.std.specs.declared.option.Option.TheVariants.{None, Some}
use Rattle.lvdc_port.specs.Device as device
use Rattle.lvdc_port.specs.Devices.{AreDistinct}
use Rattle.lvdc_plain.specs.Run.{Opening, run, IsOpening}
use Rattle.lvdc_plain.specs.Stands as plain
use Rattle.lvdc_plain.specs.View as plain_view
use Rattle.lvdc_plain.specs.declared.records.PlainEnd.{PlainEnd}
use Rattle.lvdc_plain.specs.declared.records.PlainEnd.TheVariants as plain_ends
use Rattle.lvdc_fault.specs.declared.verdict.Verdict.{Verdict}
use Rattle.lvdc_fault.specs.declared.verdict.Verdict.TheVariants.{Admissible}
use Rattle.lvdc_model.specs.Trial.{Trial}
use Rattle.lvdc_model.specs.declared.outcome.Outcome.{Outcome}
use Rattle.lvdc_model.specs.declared.outcome.Outcome.TheVariants.{Done, Stopped, Inadmissible, Device}
use Rattle.lvdc_machine.specs.declared.mode.Mode.{Mode}
use Rattle.lvdc_machine.specs.declared.mode.Mode.TheVariants.{Guarded}
use Rattle.lvdc_machine.specs.Stands.{Stands}
use Rattle.lvdc_machine.specs.View.{View}
use Rattle.lvdc_runs.specs.Same.{end_in}

-- the plain machine shows the plain run after so many times, with its end
pub record HasRunPlainly (program : Opening) (times : ℕ) (m : plain_view.View) : Type 0 where
  pub banks : m.banks ≡ program.banks
  pub shows : plain.Shows m (run program times).plain
  pub end : m.end ≡ end_in (run program times).plain

-- no device's failure is the end of the plain machine
abbrev pub NonePlainlyFailed : Option PlainEnd → Type 0
NonePlainlyFailed None = Unit {0}
NonePlainlyFailed (Some plain_ends.Done) = Unit {0}
NonePlainlyFailed (Some (plain_ends.Stopped step stop)) = Unit {0}
NonePlainlyFailed (Some (plain_ends.Device step port)) = ⊥

-- no device's failure is the end
abbrev pub NoneFailed : Option Outcome → Type 0
NoneFailed None = Unit {0}
NoneFailed (Some Done) = Unit {0}
NoneFailed (Some (Stopped step stop)) = Unit {0}
NoneFailed (Some (Inadmissible verdict)) = Unit {0}
NoneFailed (Some (Device step port)) = ⊥

-- the verdict that an end tells
abbrev pub verdict_in : Option Outcome → Verdict
verdict_in None = Admissible
verdict_in (Some Done) = Admissible
verdict_in (Some (Stopped step stop)) = Admissible
verdict_in (Some (Inadmissible verdict)) = verdict
verdict_in (Some (Device step port)) = Admissible

-- the voted machine stands in this mode after so many times of a trial, over the devices that are left, of which none has failed
pub record HasRun (mode : Mode) (o : Trial) (times : ℕ) (m : View) : Type 0 where
  pub opening : IsOpening o.opening
  pub banks : m.banks ≡ o.opening.banks
  pub script : m.script ≡ o.script
  pub mode_is : m.mode ≡ mode
  pub left : List device.Device
  pub stands : Stands o (3 * times) m left
  pub unfailed : NoneFailed m.end

-- a machine that judges has run so many times of a trial, over these devices that are left, of which none has failed, and it may make so
-- many in all
pub record HasRunWithin (o : Trial) (times most : ℕ) (m : View) (left : List device.Device) : Type 0 where
  pub run : HasRun Guarded o times m
  pub stands : Stands o (3 * times) m left
  pub distinct : AreDistinct left
  pub limit : m.limit ≡ most

-- it has run all the times that it may make
abbrev pub HasRunGuarded : Trial → ℕ → View → List device.Device → Type 0
HasRunGuarded o times m left = HasRunWithin o times times m left
