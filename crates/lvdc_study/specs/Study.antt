-- Studies: what became of each of many scripts, of one program with devices.
use Rattle.std.specs.Prelude.{◌≡◌, ℕ, ◌*◌, ◌≤◌, Bool, true, List, [], ◌∷◌, length, map}
use Rattle.std.specs.declared.option.Option.{Option}
use Rattle.std.specs.declared.option.Option.TheVariants.{None, Some}
use Rattle.lvdc_map.specs.Memory.{are_rising, AllThere}
use Rattle.lvdc_port.specs.Device.{Device}
use Rattle.lvdc_port.specs.Supplies.{supplied}
use Rattle.lvdc_plain.specs.Run.{Opening, run}
use Rattle.lvdc_fault.specs.declared.named.Named.{Named}
use Rattle.lvdc_fault.specs.declared.verdict.Verdict.{Verdict}
use Rattle.lvdc_fault.specs.declared.verdict.Verdict.TheVariants.{Admissible}
use Rattle.lvdc_withstands.specs.Form.{masks}
use Rattle.lvdc_model.specs.declared.repair.Repair.{Repair}
use Rattle.lvdc_model.specs.Judging.{first_bad}
use Rattle.lvdc_model.specs.Runs.{through}
use Rattle.lvdc_model.specs.Trial.{Trial, plain_at}
use Rattle.lvdc_report.specs.Voted.{all_counts}
use Rattle.lvdc_runs.specs.Scripts.{trial_under}
use Rattle.lvdc_fault.specs.declared.TheConstants.{MOST_TIMES}
use Rattle.lvdc_study.specs.declared.difference.Difference.{Difference}
use Rattle.lvdc_study.specs.declared.program.Program.{Program}
use Rattle.lvdc_study.specs.declared.row.Row.{Row}
use Rattle.lvdc_study.specs.Outcomes.{first_difference}

-- what each run starts from over these devices: the words of the program's TAPE lines stand behind those that the tapes have
abbrev pub opening_over : Program → List Device → Opening
opening_over p devices =
    record { image = p.image.now; banks = p.banks; start = p.start; unplugs = p.unplugs.now; devices = supplied p.supplies.now devices }

-- a program that can be run: of so many times at most, and its words rise by address and stand in banks that are there
pub record IsProgram (p : Program) : Type 0 where
  pub count : p.count ≤ MOST_TIMES
  pub rising : are_rising p.image.now ≡ true
  pub there : AllThere p.banks p.image.now

-- the step of the first repair
abbrev pub first_step : List Repair → Option ℕ
first_step [] = None
first_step (repair ∷ later) = Some repair.step

-- the row of a name: of the copies it tells in how many steps they differed from their votes, summed, and of the repairs how many
-- there were and the step of the first
abbrev pub row_with : List ℕ → Verdict → Option Difference → List (List ℕ) → List Repair → Bool → Row
row_with name verdict difference counts repairs masks =
    record {
      name = name;
      verdict = verdict;
      difference = difference;
      copies = all_counts counts;
      repairs = length repairs;
      first_repair = first_step repairs;
      masks = masks;
    }

-- the row of a script: the verdict of the first step that isn't admissible; of the run through every fault the first difference from
-- the plain run, how often copies differed, and the repairs; and whether the script masks by form
abbrev pub row_of : Opening → ℕ → Named → Row
row_of opening times named =
    row_with named.name (first_bad (trial_under opening named.script) times) (first_difference (trial_under opening named.script) times)
    (through (trial_under opening named.script) (3 * times)).counts (through (trial_under opening named.script) (3 * times)).repairs
    (masks named.script opening.banks times)

-- the rows of the scripts, in their order; each run starts from the same opening
abbrev pub rows_of : Opening → ℕ → List Named → List Row
rows_of opening times scripts = map (row_of opening times) scripts

-- the run through every fault comes to what the plain run comes to: no difference is told, and the port log and the devices are the
-- plain run's
pub record IsSame (o : Trial) (times : ℕ) : Type 0 where
  pub difference : first_difference o times ≡ None
  pub log : (through o (3 * times)).log ≡ (plain_at o times).log
  pub devices : (through o (3 * times)).devices ≡ (run o.opening times).devices

-- what is so of a row: where it is admissible it is the same, and where its script masks by form it is admissible
pub record KeepsLaws (row : Row) : Type 0 where
  pub same : row.verdict ≡ Admissible → row.difference ≡ None
  pub form : row.masks ≡ true → row.verdict ≡ Admissible
