-- The report of a run of the voted machine, and the text of a soak run. Each line ends with LF.
use Rattle.std.specs.Prelude.{ℕ, zero, suc, ◌+◌, ◌==◌, List, [], ◌++◌, codes, decimal, length, if◌then◌else◌}
use Rattle.lvdc_map.specs.Address.{spot_at}
use Rattle.lvdc_plain.specs.declared.records.Visible.{Visible}
use Rattle.lvdc_model.specs.Known.{is_known}
use Rattle.lvdc_model.specs.Trial.{Trial}
use Rattle.lvdc_model.specs.Voted.{Voted, count_of}
use Rattle.lvdc_machine.specs.View.{registers_on, bus_of_votes, answer_of_end}
use Rattle.lvdc_machine.specs.declared.mode.Mode.{Mode}
use Rattle.lvdc_machine.specs.declared.mode.Mode.TheVariants.{Guarded, Through}
use Rattle.lvdc_lines.specs.Noted.{lines_below, log_text, repairs_text}
use Rattle.lvdc_report.specs.Report.{title_line, end_text, registers_text, times_line, word_line, line_at, memory_text}
use Rattle.lvdc_report.specs.declared.title.Title.{Title}
use Rattle.lvdc_report.specs.declared.title.Title.TheVariants as titles

-- the title of a mode's report
abbrev pub title_of : Mode → Title
title_of Guarded = titles.Run
title_of Through = titles.Through

-- the registers that the votes show
abbrev pub visible_of : Voted → Visible
visible_of v = registers_on (bus_of_votes v.copies) v.steps

-- ---- the words of memory

-- the line of an address, by its number
abbrev pub shown_line : ℕ → Trial → Voted → ℕ → List ℕ
shown_line banks o v number = line_at banks v.intended (λ at. is_known o v at) (spot_at number)

-- ---- the redundancy

-- the line of a copy that differed so often, where it did
abbrev pub wrong_line : ℕ → ℕ → ℕ → List ℕ
wrong_line number copy count =
    if count == 0 then [] else codes "WRONG " ++ decimal number ++ codes " " ++ decimal copy ++ codes " " ++ decimal count ++ codes "\n"

-- the lines of the three copies of a module
abbrev pub wrong_lines : List (List ℕ) → ℕ → List ℕ
wrong_lines counts number =
    wrong_line number 1 (count_of counts number 1) ++ wrong_line number 2 (count_of counts number 2) ++ wrong_line number 3 (count_of counts number 3)

-- the lines of all seven modules
abbrev pub wrong_text : List (List ℕ) → List ℕ
wrong_text counts = lines_below (λ before. wrong_lines counts (before + 1)) 7

-- ---- the whole

-- the report of a state of the voted machine; a word that can't be told is a question mark
abbrev pub voted_text : Title → Trial → Voted → List ℕ
voted_text title o v =
    title_line title ++ end_text (answer_of_end v.end) ++ registers_text (visible_of v) ++ log_text v.log
    ++ memory_text o.opening.banks v.intended (λ at. is_known o v at) ++ wrong_text v.counts ++ repairs_text v.repairs

-- ---- soak runs

-- how often the three copies of a module differed, together
abbrev pub three_counts : List (List ℕ) → ℕ → ℕ
three_counts counts number = count_of counts number 1 + count_of counts number 2 + count_of counts number 3

-- the same of the first so many modules
unfoldable pub counts_below : List (List ℕ) → ℕ → ℕ
counts_below counts zero = 0
counts_below counts (suc number) = counts_below counts number + three_counts counts (suc number)

-- the same of all seven
abbrev pub all_counts : List (List ℕ) → ℕ
all_counts counts = counts_below counts 7

-- a line of a name and a decimal number
abbrev pub number_line : List ℕ → ℕ → List ℕ
number_line name number = name ++ codes " " ++ decimal number ++ codes "\n"

-- the text of the soak run of this number, which came to this state
abbrev pub soak_text : ℕ → Voted → List ℕ
soak_text number v =
    number_line (codes "LVDC SOAK") number ++ end_text (answer_of_end v.end) ++ times_line (visible_of v).times
    ++ word_line (codes "A") (visible_of v).a ++ number_line (codes "WRONG") (all_counts v.counts)
    ++ number_line (codes "REPAIRS") (length v.repairs)
