-- When a machine and its devices stand where the run from a given state is.
use Rattle.std.specs.Prelude.{◌≡◌, ℕ, zero, suc, ◌+◌, ◌-◌, ◌≤◌, ◌<◌, List}
use Rattle.std.specs.declared.option.Option.{Option}
use Rattle.std.specs.declared.option.Option.TheVariants.{None, Some}
use Rattle.lvdc_port.specs.Device as device
use Rattle.lvdc_fault.specs.declared.verdict.Verdict.TheVariants.{Admissible}
use Rattle.lvdc_model.specs.declared.outcome.Outcome.{Outcome}
use Rattle.lvdc_model.specs.declared.outcome.Outcome.TheVariants.{Done, Stopped, Inadmissible, Device}
use Rattle.lvdc_model.specs.Exchanges.{begin_step, with_end, wished}
use Rattle.lvdc_model.specs.Known.{last_begun}
use Rattle.lvdc_model.specs.Trial.{Trial}
use Rattle.lvdc_model.specs.Voted.{Voted}
use Rattle.lvdc_machine.specs.declared.mode.Mode.{Mode}
use Rattle.lvdc_machine.specs.View.{View}
use Rattle.lvdc_machine.specs.Shows.{Shows}
use Rattle.lvdc_machine.specs.Steps.{run_from, verdict_of, NamesPort}

-- ---- steps counted from a state

-- the steps that are made n steps after so many; by cases, so that from the start they are the n steps themselves
abbrev pub steps_after : ℕ → ℕ → ℕ
steps_after zero n = n
steps_after (suc made) n = suc made + n

-- how far a step lies after so many steps; from the start it is its own number
abbrev pub steps_since : ℕ → ℕ → ℕ
steps_since zero step = step
steps_since (suc made) step = step - suc made

-- the state in which the run from a state comes to the step of this number
abbrev pub run_to : Mode → Trial → Voted → ℕ → Voted
run_to mode o first step = run_from mode o first (steps_since first.steps step)

-- ---- where the run is

-- the state of a machine with this end, n steps after the first state: that of its run, which knows no failing device; where a
-- device failed, that of the step that was prepared for the exchange, with this end
abbrev pub state_from : Option Outcome → Mode → Trial → Voted → ℕ → Voted
state_from (Some (Device step port)) mode o first n = with_end (begin_step o (run_to mode o first step)) (Device step port)
state_from _ mode o first n = run_from mode o first n

-- the device at this port failed in the exchange of this step: the run had come to it without an end, nothing was said
-- against the step, and its exchange is with this port
pub record FailedFrom (o : Trial) (first : Voted) (n : ℕ) (mode : Mode) (step port : ℕ) : Type 0 where
  pub later : first.steps ≤ step
  pub early : step < steps_after first.steps n
  pub going : (run_to mode o first step).end ≡ None
  pub steps : (run_to mode o first step).steps ≡ step
  pub admitted : verdict_of mode o (begin_step o (run_to mode o first step)) ≡ Admissible
  pub asked : NamesPort (wished o (begin_step o (run_to mode o first step))) port

-- what an end says of the run: none has come where all steps were made
abbrev pub EndsFrom : Option Outcome → Trial → Voted → ℕ → Mode → ℕ → Type 0
EndsFrom None o first n mode steps = steps ≡ steps_after first.steps n
EndsFrom (Some Done) o first n mode steps = ⊥
EndsFrom (Some (Stopped step stop)) o first n mode steps = steps ≤ steps_after first.steps n
EndsFrom (Some (Inadmissible verdict)) o first n mode steps = steps < steps_after first.steps n
EndsFrom (Some (Device step port)) o first n mode steps = FailedFrom o first n mode step port

-- the machine and the devices stand n steps after this state for this trial
pub record StandsFrom (o : Trial) (first : Voted) (n : ℕ) (m : View) (devices : List device.Device) : Type 0 where
  pub shows : Shows o m devices (state_from m.end m.mode o first n)
  pub begun : m.on_memory.last ≡ last_begun m.end m.steps
  pub ends : EndsFrom m.end o first n m.mode m.steps
