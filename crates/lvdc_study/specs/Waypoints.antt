-- Waypoints: stations without their logs. A run may go on from one over whatever devices, as long as they answer what the plain run read.
use Rattle.std.specs.Prelude.{◌≡◌, ℕ, ◌+◌, ◌*◌, ◌/◌, ◌≤◌, nat_le, if◌then◌else◌, List, [], ◌∷◌, ◌++◌, length, true, None}
use Rattle.lvdc_port.specs.Device.{Device}
use Rattle.lvdc_port.specs.declared.requests.Supply.{Supply}
use Rattle.lvdc_plain.specs.declared.records.Exchange.{Exchange}
use Rattle.lvdc_plain.specs.Run.{Opening, run, IsOpening}
use Rattle.lvdc_fault.specs.declared.verdict.Verdict.TheVariants.{Admissible}
use Rattle.lvdc_model.specs.Runs.{guarded}
use Rattle.lvdc_model.specs.Trial.{Trial}
use Rattle.lvdc_model.specs.Voted.{Voted}
use Rattle.lvdc_machine.specs.Shows.{Shows}
use Rattle.lvdc_machine.specs.View.{View}
use Rattle.lvdc_machine.specs.declared.mode.Mode.TheVariants.{Guarded}
use Rattle.lvdc_snapshot.specs.Snapshot.{IsWhole, Means}
use Rattle.lvdc_runs.specs.Stations.{fault_free_at}
use Rattle.lvdc_study.specs.declared.row.Row.{Row}
use Rattle.lvdc_study.specs.declared.waypoint.Waypoint.{Waypoint}
use Rattle.lvdc_study.specs.Study.{row_with}

-- a log is the beginning of a later one
pub record IsPrefix (early late : List Exchange) : Type 0 where
  pub rest : List Exchange
  pub is : early ++ rest ≡ late

-- the words that were read before so many times, by the lines of a log, up to the first line of a later time
abbrev pub words_read : ℕ → List Exchange → List Supply
words_read times [] = []
words_read times (line ∷ lines) =
    if nat_le times line.time then [] else if line.reading then record { port = line.port; word = line.word } ∷ words_read times lines else words_read times lines

-- what a state has but for its devices and its log
abbrev pub apart : Voted → Voted
apart v = record v { devices = []; log = [] }

-- a whole snapshot that has no log, of the fault-free run but for that; and so many lines stand in the log of the plain run there
pub record IsWaypoint (program : Opening) (count : ℕ) (w : Waypoint) : Type 0 where
  pub opening : IsOpening program
  pub whole : IsWhole w.snapshot
  pub within : w.snapshot.steps ≤ 3 * count
  pub banks : w.snapshot.banks ≡ program.banks
  pub log : w.snapshot.log ≡ []
  pub state : Voted
  pub means : Means w.snapshot state
  pub same : apart state ≡ apart (fault_free_at program w.snapshot.steps)
  pub lines : w.lines ≡ length (run program (w.snapshot.steps / 3)).plain.log

-- a machine that judges has made so many times of a trial over whatever devices: but for these and the log it has come to what the guarded
-- run comes to, and its log is that of the plain run from so many lines on
pub record HasReplayed (o : Trial) (times lines : ℕ) (m : View) : Type 0 where
  pub devices : List Device
  pub state : Voted
  pub shows : Shows o m devices state
  pub same : apart state ≡ apart (guarded o (3 * times))
  pub lines_are : length (run o.opening times).plain.log ≡ lines + length m.log
  pub mode : m.mode ≡ Guarded

-- a row of this name tells what such a machine has counted and repaired, as that of a script that masks by form
pub record TellsReplay (o : Trial) (times lines : ℕ) (name : List ℕ) (row : Row) : Type 0 where
  pub machine : View
  pub replayed : HasReplayed o times lines machine
  pub told : row ≡ row_with name Admissible None machine.counts machine.repairs true
