-- The texts of a run. Each line ends with LF.
use Rattle.std.specs.Prelude.{ℕ, Bool, true, false, ◌==◌, List, [], ◌++◌, codes, decimal, if◌then◌else◌}
use Rattle.lvdc_map.specs.Address.{Spot, spot_at}
use Rattle.lvdc_map.specs.Banks.{is_there}
use Rattle.lvdc_map.specs.Hop.{HopConstant}
use Rattle.lvdc_map.specs.Memory.{Memory, word_at}
use Rattle.lvdc_plain.specs.Plain.{PlainState}
use Rattle.lvdc_plain.specs.declared.records.PlainEnd.{PlainEnd}
use Rattle.lvdc_plain.specs.declared.records.PlainEnd.TheVariants as plain
use Rattle.lvdc_plain.specs.declared.records.Stop.{Stop}
use Rattle.lvdc_plain.specs.declared.records.Stop.TheVariants as stops
use Rattle.lvdc_plain.specs.declared.records.Visible.{Visible}
use Rattle.lvdc_fault.specs.declared.verdict.Verdict.{Verdict}
use Rattle.lvdc_fault.specs.declared.verdict.Verdict.TheVariants as verdicts
use Rattle.lvdc_model.specs.declared.outcome.Outcome.{Outcome}
use Rattle.lvdc_model.specs.declared.outcome.Outcome.TheVariants.{Done, Stopped, Inadmissible, Device}
use Rattle.lvdc_text.specs.Numbers.{octal_text}
use Rattle.lvdc_image.specs.Image.{spot_text}
use Rattle.lvdc_lines.specs.Noted.{lines_below, log_text}
use Rattle.lvdc_report.specs.declared.title.Title.{Title}
use Rattle.lvdc_report.specs.declared.title.Title.TheVariants.{Run, Plain, Through}

-- the first line
abbrev pub title_line : Title → List ℕ
title_line Run = codes "LVDC RUN\n"
title_line Plain = codes "LVDC PLAIN\n"
title_line Through = codes "LVDC THROUGH\n"

-- ---- the end

-- why it stopped
abbrev pub stop_text : Stop → List ℕ
stop_text stops.Shift = codes "SHIFT"
stop_text stops.Exm = codes "EXM"
stop_text (stops.Memory at) = codes "MEMORY " ++ spot_text at

-- which step was inadmissible, and its cause: a module with two wrong copies, or an address
abbrev pub verdict_text : Verdict → List ℕ
verdict_text verdicts.Admissible = []
verdict_text (verdicts.Logic step number) = decimal step ++ codes " LOGIC " ++ decimal number
verdict_text (verdicts.Memory step at) = decimal step ++ codes " MEMORY " ++ spot_text at

-- the END line: steps and modules are decimal, ports octal
abbrev pub end_text : Outcome → List ℕ
end_text Done = codes "END DONE\n"
end_text (Stopped step stop) = codes "END STOPPED " ++ decimal step ++ codes " " ++ stop_text stop ++ codes "\n"
end_text (Inadmissible verdict) = codes "END INADMISSIBLE " ++ verdict_text verdict ++ codes "\n"
end_text (Device step port) = codes "END DEVICE " ++ decimal step ++ codes " " ++ octal_text 3 port ++ codes "\n"

-- the end of the plain machine as one of the voted machine's
abbrev pub outcome_of : PlainEnd → Outcome
outcome_of plain.Done = Done
outcome_of (plain.Stopped step stop) = Stopped step stop
outcome_of (plain.Device step port) = Device step port

-- ---- the registers

-- the whole instruction times made
abbrev pub times_line : ℕ → List ℕ
times_line times = codes "TIMES " ++ decimal times ++ codes "\n"

-- instruction module, sector, syllable and location
abbrev pub place_line : HopConstant → List ℕ
place_line h =
    codes "PLACE " ++ octal_text 1 h.imod ++ codes " " ++ octal_text 2 h.isec ++ codes " " ++ octal_text 1 h.syl
    ++ codes " " ++ octal_text 3 h.loc ++ codes "\n"

-- data module and sector
abbrev pub data_line : HopConstant → List ℕ
data_line h = codes "DATA " ++ octal_text 1 h.dmod ++ codes " " ++ octal_text 2 h.dsec ++ codes "\n"

-- a bit as a digit
abbrev pub bit_digit : Bool → List ℕ
bit_digit bit = if bit then codes "1" else codes "0"

-- DUPIN and DUPDN
abbrev pub dup_line : HopConstant → List ℕ
dup_line h = codes "DUP " ++ bit_digit h.dupin ++ codes " " ++ bit_digit h.dupdn ++ codes "\n"

-- a register of this name
abbrev pub word_line : List ℕ → ℕ → List ℕ
word_line name word = name ++ codes " " ++ octal_text 9 word ++ codes "\n"

-- the lines of the registers, TIMES first
abbrev pub registers_text : Visible → List ℕ
registers_text v =
    times_line v.times ++ place_line v.place ++ data_line v.place ++ dup_line v.place
    ++ word_line (codes "A") v.a ++ word_line (codes "PQ") v.pq ++ word_line (codes "SAVER") v.saver

-- ---- the words of memory

-- the line of an address and its word
abbrev pub memory_line : Spot → ℕ → List ℕ
memory_line at word = codes "MEM " ++ spot_text at ++ codes " " ++ octal_text 9 word ++ codes "\n"

-- the line of an address whose word can't be told
abbrev pub unknown_line : Spot → List ℕ
unknown_line at = codes "MEM " ++ spot_text at ++ codes " ?\n"

-- the line of a word, which has none where it is 0; a word that can't be told has one always
abbrev pub told_line : Bool → Spot → ℕ → List ℕ
told_line true at word = if word == 0 then [] else memory_line at word
told_line false at word = unknown_line at

-- the line of an address, where its bank is there and its word has one
abbrev pub line_at : ℕ → Memory → (Spot → Bool) → Spot → List ℕ
line_at banks memory known at = if is_there banks at then told_line (known at) at (word_at memory at) else []

-- the lines of all addresses in their order
abbrev pub memory_text : ℕ → Memory → (Spot → Bool) → List ℕ
memory_text banks memory known = lines_below (λ number. line_at banks memory known (spot_at number)) 32768

-- every word of the plain machine is known
abbrev pub all_known : Spot → Bool
all_known at = true

-- the line of an address of the plain machine, by its number
abbrev pub plain_line : ℕ → Memory → ℕ → List ℕ
plain_line banks memory number = line_at banks memory all_known (spot_at number)

-- ---- the whole

-- what a plain state shows of its registers
abbrev pub visible_in : PlainState → Visible
visible_in p = record { place = p.place; a = p.a; pq = p.pq; saver = p.saver; times = p.times }

-- the report of a plain state, reached with this end
abbrev pub report_text : Title → PlainEnd → PlainState → List ℕ
report_text title end p =
    title_line title ++ end_text (outcome_of end) ++ registers_text (visible_in p) ++ log_text p.log
    ++ memory_text p.banks p.memory all_known
