-- The text of a campaign: a line for each row, and a line of their total.
use Rattle.std.specs.Prelude.{ℕ, Bool, true, false, List, ◌++◌, codes, decimal, length, filter}
use Rattle.lvdc_fault.specs.declared.verdict.Verdict.{Verdict}
use Rattle.lvdc_fault.specs.declared.verdict.Verdict.TheVariants.{Admissible, Logic, Memory}
use Rattle.lvdc_image.specs.Image.{spot_text}
use Rattle.lvdc_lines.specs.Noted.{lines_of}
use Rattle.lvdc_campaign.specs.declared.row.Row.{Row}

-- a verdict; the step and the module are decimal
abbrev pub verdict_text : Verdict → List ℕ
verdict_text Admissible = codes "ADMISSIBLE"
verdict_text (Logic step number) = codes "LOGIC " ++ decimal step ++ codes " " ++ decimal number
verdict_text (Memory step at) = codes "MEMORY " ++ decimal step ++ codes " " ++ spot_text at

-- whether the run came to what the fault-free run comes to
abbrev pub outcome_text : Bool → List ℕ
outcome_text true = codes " SAME\n"
outcome_text false = codes " DIFFERS\n"

-- how the line of a script begins, in a campaign and in a study
abbrev pub script_text : List ℕ → Verdict → List ℕ
script_text name verdict = codes "SCRIPT " ++ name ++ codes " " ++ verdict_text verdict

-- the line of a script
abbrev pub row_line : Row → List ℕ
row_line row = script_text row.name row.verdict ++ outcome_text row.same

-- a verdict is Admissible
abbrev pub admits : Verdict → Bool
admits Admissible = true
admits _ = false

-- how many of a list are so
abbrev pub count_in : {A : Type 0} → (A → Bool) → List A → ℕ
count_in is items = length (filter is items)

-- how the last line begins, in a campaign and in a study
abbrev pub counts_text : List ℕ → ℕ → ℕ → ℕ → List ℕ
counts_text title scripts admissible same =
    title ++ codes " " ++ decimal scripts ++ codes " ADMISSIBLE " ++ decimal admissible ++ codes " SAME " ++ decimal same

-- the last line
abbrev pub total_line : List Row → List ℕ
total_line rows =
    counts_text (codes "CAMPAIGN") (length rows) (count_in (λ row. admits row.verdict) rows) (count_in (λ row. row.same) rows) ++ codes "\n"

-- the whole, in the order of the scripts
abbrev pub campaign_text : List Row → List ℕ
campaign_text rows = lines_of row_line rows ++ total_line rows
