-- Scripts that a program is run under.
use Rattle.std.specs.Prelude.{◌≤◌, List, All, length}
use Rattle.lvdc_plain.specs.Run.{Opening}
use Rattle.lvdc_fault.specs.declared.event.Event.{Event}
use Rattle.lvdc_fault.specs.declared.named.Named.{Named}
use Rattle.lvdc_fault.specs.declared.TheConstants.{MOST_EVENTS}
use Rattle.lvdc_fault.specs.Events.{IsEvent}
use Rattle.lvdc_model.specs.Trial.{Trial}

-- the trial of a program under a script
abbrev pub trial_under : Opening → List Event → Trial
trial_under program script = record { opening = program; script = script }

-- a script that can be run: not too long, and each number of its events in its range
pub record IsScript (named : Named) : Type 0 where
  pub few : length named.script ≤ MOST_EVENTS
  pub events : All IsEvent named.script
