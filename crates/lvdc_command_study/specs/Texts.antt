-- The text of a study: a line for each row, and a line of their total.
use Rattle.std.specs.Prelude.{ℕ, Bool, true, false, is_none, List, ◌++◌, codes, decimal, length}
use Rattle.std.specs.declared.option.Option.{Option}
use Rattle.std.specs.declared.option.Option.TheVariants.{None, Some}
use Rattle.lvdc_image.specs.Image.{spot_text}
use Rattle.lvdc_lines.specs.Noted.{lines_of}
use Rattle.lvdc_command_campaign.specs.Texts.{script_text, counts_text, admits, count_in}
use Rattle.lvdc_study.specs.declared.difference.Difference.{Difference}
use Rattle.lvdc_study.specs.declared.difference.Difference.TheVariants.{End, Port, Registers, Words}
use Rattle.lvdc_study.specs.declared.row.Row.{Row}

-- ---- the line of a script

-- what differs first; the time is decimal
abbrev pub difference_text : Difference → List ℕ
difference_text End = codes "END"
difference_text (Port time) = codes "PORT " ++ decimal time
difference_text Registers = codes "REGISTERS"
difference_text (Words at) = codes "WORDS " ++ spot_text at

-- whether the run came to what the fault-free run comes to, and else what differs first
abbrev pub outcome_text : Option Difference → List ℕ
outcome_text None = codes "SAME"
outcome_text (Some difference) = codes "DIFFERS " ++ difference_text difference

-- the step of the first repair, where there was one
abbrev pub step_text : Option ℕ → List ℕ
step_text None = codes "-"
step_text (Some step) = decimal step

-- what the redundancy did: how often copies differed, how many repairs there were, and the step of the first
abbrev pub redundancy_text : Row → List ℕ
redundancy_text row = codes " COPIES " ++ decimal row.copies ++ codes " REPAIRS " ++ decimal row.repairs ++ codes " " ++ step_text row.first_repair

-- whether the script masks by form
abbrev pub form_text : Bool → List ℕ
form_text true = codes "YES"
form_text false = codes "NO"

-- the line of a script
abbrev pub row_line : Row → List ℕ
row_line row =
    script_text row.name row.verdict ++ codes " " ++ outcome_text row.difference ++ redundancy_text row ++ codes " FORM " ++ form_text row.masks ++ codes "\n"

-- ---- the line of the total

-- the last line
abbrev pub total_line : List Row → List ℕ
total_line rows =
    counts_text (codes "STUDY") (length rows) (count_in (λ row. admits row.verdict) rows) (count_in (λ row. is_none row.difference) rows)
    ++ codes " FORM " ++ decimal (count_in (λ row. row.masks) rows) ++ codes "\n"

-- the whole, in the order of the scripts
abbrev pub study_text : List Row → List ℕ
study_text rows = lines_of row_line rows ++ total_line rows
