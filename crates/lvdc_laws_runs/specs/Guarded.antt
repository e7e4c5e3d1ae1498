-- What a guarded machine that stands says of the script and of the plain run.
use Rattle.std.specs.Prelude.{◌≡◌, ◌≢◌, ℕ, suc, ◌*◌, ◌%◌, ◌<◌, Bool}
use Rattle.std.specs.declared.option.Option.{Option}
use Rattle.std.specs.declared.option.Option.TheVariants.{None, Some}
use Rattle.lvdc_map.specs.Address.{Spot}
use Rattle.lvdc_plain.specs.Stands.{Names, request_at}
use Rattle.lvdc_plain.specs.View.{ByInstruction}
use Rattle.lvdc_fault.specs.declared.verdict.Verdict.{Verdict}
use Rattle.lvdc_fault.specs.declared.verdict.Verdict.TheVariants.{Admissible}
use Rattle.lvdc_model.specs.declared.outcome.Outcome.{Outcome}
use Rattle.lvdc_model.specs.declared.outcome.Outcome.TheVariants.{Done, Stopped, Inadmissible, Device}
use Rattle.lvdc_model.specs.Exchanges.{begin_step, with_end}
use Rattle.lvdc_model.specs.Judging.{is_recoverable, is_recoverable_after, first_bad_below}
use Rattle.lvdc_model.specs.Runs.{guarded}
use Rattle.lvdc_model.specs.Trial.{Trial, plain_at, plain_in}
use Rattle.lvdc_model.specs.Voted.{Voted}
use Rattle.lvdc_laws_voted.specs.Ends.{ShowsTimes, stop_end, IsBegun}

-- no step was inadmissible, and after whole times the state shows the registers, the words, the log and the devices of the
-- plain run, a stop's own time included
pub record IsPlain (o : Trial) (n : ℕ) (v : Voted) : Type 0 where
  pub admissible : first_bad_below o n ≡ Admissible
  pub times : (times : ℕ) → n ≡ 3 * times → ShowsTimes o times v

-- the run ended at the first inadmissible step with its verdict, once that step was begun
pub record IsRefused (o : Trial) (n : ℕ) (verdict : Verdict) (v : Voted) : Type 0 where
  pub first : verdict ≡ first_bad_below o n
  pub bad : verdict ≢ Admissible
  pub step : ℕ
  pub early : step < n
  pub begun : IsBegun o step (begin_step o (guarded o step))
  pub state : v ≡ with_end (begin_step o (guarded o step)) (Inadmissible verdict)

-- the device failed in a step that was begun, and neither that step nor one before it was inadmissible
pub record IsBroken (o : Trial) (step port : ℕ) (v : Voted) : Type 0 where
  pub admissible : first_bad_below o (suc step) ≡ Admissible
  pub begun : IsBegun o step (begin_step o (guarded o step))
  pub state : v ≡ with_end (begin_step o (guarded o step)) (Device step port)

-- the plain run makes an exchange with this port in this step: it is the last of its time, the run has not stopped, no time is
-- left for which nothing is fetched, and the instruction asks for the port
pub record IsExchanged (o : Trial) (step port : ℕ) : Type 0 where
  pub last : step % 3 ≡ 2
  pub running : (plain_in o step).stop ≡ None
  pub free : (plain_in o step).hold ≡ 0
  pub asked : Names (request_at (plain_in o step)) port

-- by the end that was kept: a guarded machine stops by an instruction alone
abbrev pub GuardedBy : Option Outcome → Trial → ℕ → Voted → Type 0
GuardedBy None o n v = IsPlain o n v
GuardedBy (Some Done) o n v = ⊥
GuardedBy (Some (Stopped step stop)) o n v = IsPlain o n v × ByInstruction (Some stop)
GuardedBy (Some (Inadmissible verdict)) o n v = IsRefused o n verdict v
GuardedBy (Some (Device step port)) o n v = IsBroken o step port v

-- after so many times the state shows the plain run, and its end is the plain run's stop or none
pub record IsUnhurt (o : Trial) (times : ℕ) (v : Voted) : Type 0 where
  pub shows : ShowsTimes o times v
  pub end : v.end ≡ stop_end (plain_at o times).stop (plain_at o times).times

-- by the end that was kept under a script without events: no verdict is one, and only a failed device keeps the run from
-- being the plain run
abbrev pub UnhurtBy : Option Outcome → Trial → ℕ → Voted → Type 0
UnhurtBy None o times v = IsUnhurt o times v
UnhurtBy (Some Done) o times v = ⊥
UnhurtBy (Some (Stopped step stop)) o times v = IsUnhurt o times v
UnhurtBy (Some (Inadmissible verdict)) o times v = ⊥
UnhurtBy (Some (Device step port)) o times v = Unit {0}

-- the plain run's word of an address can be recovered, by the end that was kept: after the steps made, or in the step that was
-- begun where a verdict or a device ended the run
abbrev pub is_recoverable_by : Option Outcome → Trial → ℕ → Spot → Bool
is_recoverable_by (Some (Inadmissible verdict)) o steps at = is_recoverable o steps at
is_recoverable_by (Some (Device step port)) o steps at = is_recoverable o steps at
is_recoverable_by _ o steps at = is_recoverable_after o steps at
