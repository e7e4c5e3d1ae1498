-- When a machine and its devices stand where the run of a trial is: the run from the state of its start.
use Rattle.std.specs.Prelude.{ℕ, List, Bool, true, false}
use Rattle.std.specs.declared.option.Option.{Option}
use Rattle.lvdc_map.specs.Address.{Spot}
use Rattle.lvdc_map.specs.Memory.{word_at}
use Rattle.lvdc_port.specs.Device as device
use Rattle.lvdc_model.specs.declared.outcome.Outcome.{Outcome}
use Rattle.lvdc_model.specs.Known.{is_known}
use Rattle.lvdc_model.specs.Trial.{Trial}
use Rattle.lvdc_model.specs.Voted.{Voted, voted_start}
use Rattle.lvdc_machine.specs.declared.mode.Mode.{Mode}
use Rattle.lvdc_machine.specs.declared.shown.Shown.{Shown}
use Rattle.lvdc_machine.specs.declared.shown.Shown.TheVariants.{Known, Unknown}
use Rattle.lvdc_machine.specs.Resumed.{state_from, FailedFrom, EndsFrom, StandsFrom}
use Rattle.lvdc_machine.specs.View.{View}

-- the state of a machine with this end, t steps after the start of a trial
abbrev pub state_by : Option Outcome → Mode → Trial → ℕ → Voted
state_by end mode o t = state_from end mode o (voted_start o) t

-- the device at this port failed in the exchange of this step
abbrev pub HasFailed : Trial → ℕ → Mode → ℕ → ℕ → Type 0
HasFailed o t mode step port = FailedFrom o (voted_start o) t mode step port

-- what an end says of the run
abbrev pub EndsAs : Option Outcome → Trial → ℕ → Mode → ℕ → Type 0
EndsAs end o t mode steps = EndsFrom end o (voted_start o) t mode steps

-- the machine and the devices stand after t steps for this trial
abbrev pub Stands : Trial → ℕ → View → List device.Device → Type 0
Stands o t m devices = StandsFrom o (voted_start o) t m devices

-- what is told of a word that can be recovered or can't
abbrev pub shown_by : Bool → ℕ → Shown
shown_by true word = Known word
shown_by false word = Unknown

-- what is told of an address in a state
abbrev pub shown_of : Trial → Voted → Spot → Shown
shown_of o v at = shown_by (is_known o v at) (word_at v.intended at)
