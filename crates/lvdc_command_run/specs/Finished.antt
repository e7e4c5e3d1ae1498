-- What a run of a machine leaves.
use Rattle.std.specs.Prelude.{◌≡◌, ℕ, ◌*◌, List, map}
use Rattle.std.specs.declared.option.Option.{Option}
use Rattle.std.specs.declared.option.Option.TheVariants.{Some}
use Rattle.lvdc_map.specs.Address.{Spot}
use Rattle.lvdc_map.specs.Banks.{HasBank}
use Rattle.lvdc_port.specs.Device as device
use Rattle.lvdc_plain.specs.Calls as plain_calls
use Rattle.lvdc_plain.specs.Stands as plain
use Rattle.lvdc_plain.specs.View as plain_view
use Rattle.lvdc_plain.specs.Run.{IsOpening}
use Rattle.lvdc_model.specs.declared.outcome.Outcome.{Outcome}
use Rattle.lvdc_model.specs.declared.outcome.Outcome.TheVariants.{Device}
use Rattle.lvdc_model.specs.Known.{is_known}
use Rattle.lvdc_model.specs.Runs.{guarded}
use Rattle.lvdc_model.specs.Trial.{Trial}
use Rattle.lvdc_model.specs.Voted.{Voted}
use Rattle.lvdc_machine.specs.Causes.{EndHasCause}
use Rattle.lvdc_machine.specs.Stands.{Stands, state_by}
use Rattle.lvdc_machine.specs.View.{View, answer_of_end}
use Rattle.lvdc_machine.specs.declared.mode.Mode.{Mode}
use Rattle.lvdc_machine.specs.declared.mode.Mode.TheVariants.{Guarded}
use Rattle.lvdc_report.specs.Report.{visible_in}
use Rattle.lvdc_report.specs.Voted.{visible_of}
use Rattle.lvdc_command_run.specs.Accounts.{Account, account, begun_account}
use Rattle.lvdc_command_run.specs.Runs.{ExchangesAdmitted}

-- a machine of this mode has run a trial of so many times, over an opening of words; its end has its cause
pub record HasRun {B : Type 0} (device_of : B → device.Device) (faults : B → ℕ) (mode : Mode) (o : Trial) (n : ℕ) (old new : List B) (m : View) : Type 0 where
  pub opening : IsOpening o.opening
  pub mode_is : m.mode ≡ mode
  pub stands : Stands o (3 * n) m (map device_of new)
  pub cause : EndHasCause device_of faults (answer_of_end m.end) old new

-- the plain machine has run a trial of so many times; its end has its cause
pub record HasRunPlainly {B : Type 0} (device_of : B → device.Device) (faults : B → ℕ) (o : Trial) (n : ℕ) (old new : List B) (m : plain_view.View) : Type 0 where
  pub stands : plain.Stands o.opening n m (map device_of new)
  pub cause : plain_calls.PlainEndHasCause device_of faults (plain_view.answer_of_end m.end) old new

-- a state of the voted machine tells an account: its parts are those of the account, and what the redundancy did stands in this
-- other state
pub record Tells (o : Trial) (a : Account) (v w : Voted) : Type 0 where
  pub end : answer_of_end v.end ≡ a.end
  pub registers : visible_of v ≡ visible_in a.plain
  pub log : v.log ≡ a.plain.log
  pub words : v.intended ≡ a.plain.memory
  pub known : (at : Spot) → HasBank o.opening.banks at → is_known o v at ≡ a.recoverable at
  pub devices : v.devices ≡ a.devices
  pub counts : v.counts ≡ w.counts
  pub repairs : v.repairs ≡ w.repairs

-- what a state tells, by the end that was kept: where a device failed, it was in an exchange of the plain run, and the account
-- of that step is told; else the account of the trial
abbrev pub TellsBy : Option Outcome → Trial → ℕ → Voted → Type 0
TellsBy (Some (Device step port)) o n v = ExchangesAdmitted o n step port × Tells o (begun_account o step (Device step port)) v (guarded o step)
TellsBy kept o n v = Tells o (account o n) v (guarded o (3 * n))

-- a machine that judges has run a trial of so many times, and where it stands it tells the account of the plain run
pub record HasJudged {B : Type 0} (device_of : B → device.Device) (faults : B → ℕ) (o : Trial) (n : ℕ) (old new : List B) (m : View) : Type 0 where
  pub run : HasRun device_of faults Guarded o n old new m
  pub tells : TellsBy m.end o n (state_by m.end Guarded o (3 * n))
