-- When the events of a script begin, and a trial without its events.
use Rattle.std.specs.Prelude.{ℕ, ◌≤◌, List, [], All}
use Rattle.lvdc_fault.specs.declared.event.Event.{Event}
use Rattle.lvdc_fault.specs.Script.{first_of}
use Rattle.lvdc_model.specs.Trial.{Trial}

-- an event begins at a step or later: its first step counts, and that of damage is its only one
abbrev pub BeginsFrom : ℕ → Event → Type 0
BeginsFrom step e = step ≤ first_of e

-- so does each event of a script
abbrev pub AllBeginFrom : ℕ → List Event → Type 0
AllBeginFrom step script = All (BeginsFrom step) script

-- the trial of the same opening under a script without events
abbrev pub fault_free : Trial → Trial
fault_free o = record o { script = [] }
