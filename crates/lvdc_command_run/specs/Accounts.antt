-- What `run` tells of a deck, by the fault-free instruction table and the script alone. No machine of three copies is known here.
use Rattle.std.specs.Prelude.{ℕ, ◌-◌, ◌*◌, ◌/◌, Bool, List, unwrap_or, option_map}
use Rattle.std.specs.declared.option.Option.{Option}
use Rattle.lvdc_map.specs.Address.{Spot}
use Rattle.lvdc_port.specs.Device as device
use Rattle.lvdc_plain.specs.Plain.{PlainState}
use Rattle.lvdc_plain.specs.Run.{run, plugged}
use Rattle.lvdc_plain.specs.declared.records.Stop.{Stop}
use Rattle.lvdc_fault.specs.declared.verdict.Verdict.{Verdict}
use Rattle.lvdc_fault.specs.declared.verdict.Verdict.TheVariants.{Admissible, Logic, Memory}
use Rattle.lvdc_model.specs.declared.outcome.Outcome.{Outcome}
use Rattle.lvdc_model.specs.declared.outcome.Outcome.TheVariants.{Done, Stopped, Inadmissible, Device}
use Rattle.lvdc_model.specs.Judging.{first_bad, is_recoverable, is_recoverable_after}
use Rattle.lvdc_model.specs.Trial.{Trial}

-- the end of a run, the plain state that its report shows, the devices that it leaves, and which words can be recovered
pub record Account : Type 0 where
  pub end : Outcome
  pub plain : PlainState
  pub devices : List device.Device
  pub recoverable : Spot → Bool

-- after so many times, or fewer up to a stop, which falls into the last step of the last time made
abbrev pub whole_account : Trial → ℕ → Account
whole_account o n =
    let p = (run o.opening n).plain in
    let end = unwrap_or (option_map (Stopped (3 * p.times - 1)) p.stop) Done in
    record { end = end; plain = p; devices = (run o.opening n).devices; recoverable = is_recoverable_after o (3 * p.times) }

-- in a step that was begun and isn't made: after the whole times before it, without the devices that are taken away at its time
abbrev pub begun_account : Trial → ℕ → Outcome → Account
begun_account o step end =
    let w = run o.opening (step / 3) in
    record { end = end; plain = w.plain; devices = plugged o.opening.unplugs (step / 3) w.devices; recoverable = is_recoverable o step }

-- by what is said of the first step that isn't admissible, Admissible where there is none: it ends the run
abbrev pub account_by : Verdict → Trial → ℕ → Account
account_by Admissible o n = whole_account o n
account_by (Logic step number) o n = begun_account o step (Inadmissible (Logic step number))
account_by (Memory step at) o n = begun_account o step (Inadmissible (Memory step at))

-- what `run` tells of a trial of so many times, in which no device fails
abbrev pub account : Trial → ℕ → Account
account o n = account_by (first_bad o n) o n

-- 0 where all times were made, 6 at a stop, 5 at an inadmissible step, 10 where a device failed
abbrev pub end_status : Outcome → ℕ
end_status Done = 0
end_status (Stopped step stop) = 6
end_status (Inadmissible verdict) = 5
end_status (Device step port) = 10

-- ---- for the laws

-- the end after so many times, by why the machine stopped
abbrev pub end_by : Option Stop → ℕ → Outcome
end_by stop times = unwrap_or (option_map (Stopped (3 * times - 1)) stop) Done
