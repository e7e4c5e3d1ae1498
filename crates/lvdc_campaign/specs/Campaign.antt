-- Fault campaigns: what each of many scripts makes of one program.
use Rattle.std.specs.Prelude.{ℕ, List, [], is_none, map}
use Rattle.lvdc_map.specs.Hop.{HopConstant}
use Rattle.lvdc_map.specs.declared.placed.Placed.{Placed}
use Rattle.lvdc_plain.specs.Run.{Opening}
use Rattle.lvdc_fault.specs.declared.named.Named.{Named}
use Rattle.lvdc_model.specs.Judging.{first_bad}
use Rattle.lvdc_runs.specs.Same.{is_same}
use Rattle.lvdc_runs.specs.Scripts.{trial_under}
use Rattle.lvdc_study.specs.declared.row.Row as study
use Rattle.lvdc_campaign.specs.declared.row.Row.{Row}

-- the program that all scripts are run against; no device is at any port
abbrev pub program_of : List Placed → HopConstant → ℕ → Opening
program_of image start banks = record { image = image; banks = banks; start = start; unplugs = []; devices = [] }

-- the row of a script: its verdict is that of the first step that isn't admissible
abbrev pub row_of : Opening → ℕ → Named → Row
row_of program times named =
    record {
      name = named.name;
      verdict = first_bad (trial_under program named.script) times;
      same = is_same (trial_under program named.script) times;
    }

-- the rows of the scripts, in their order
abbrev pub rows_of : Opening → ℕ → List Named → List Row
rows_of program times scripts = map (row_of program times) scripts

-- the row of a study in its shorter form: of what differs it tells whether anything does
abbrev pub short_row : study.Row → Row
short_row row = record { name = row.name; verdict = row.verdict; same = is_none row.difference }
