-- A debug session: its commands one after the other over the guarded run of a trial. No machine of three copies is known here
-- but by what a state shows.
use Rattle.std.specs.Prelude.{ℕ, zero, suc, ◌+◌, ◌-◌, ◌*◌, min, Bool, true, false, is_some, ◌==◌, ◌&&◌, ◌||◌, nat_lt, nat_le, List, [], ◌∷◌, ◌++◌, length, fold, codes, decimal, if◌then◌else◌, Option, None, Some}
use Rattle.lvdc_word.specs.Word.{upper, lower}
use Rattle.lvdc_map.specs.Address.{Spot}
use Rattle.lvdc_map.specs.Hop.{fetch_of}
use Rattle.lvdc_isa.specs.Instr.{instr}
use Rattle.lvdc_isa.specs.Mnemonics.{printed}
use Rattle.lvdc_text.specs.Lines.{token_texts_of}
use Rattle.lvdc_text.specs.Numbers.{octal_text}
use Rattle.lvdc_vote.specs.Copies as vote
use Rattle.lvdc_modules.specs.Seen.{hold}
use Rattle.lvdc_vote.specs.Numbers.{latches_of}
use Rattle.lvdc_plain.specs.declared.records.Visible.{Visible}
use Rattle.lvdc_model.specs.declared.outcome.Outcome.{Outcome}
use Rattle.lvdc_model.specs.declared.outcome.Outcome.TheVariants.{Device}
use Rattle.lvdc_model.specs.Exchanges.{begin_step, with_end}
use Rattle.lvdc_model.specs.Runs.{guarded}
use Rattle.lvdc_model.specs.Trial.{Trial}
use Rattle.lvdc_model.specs.Voted.{Voted}
use Rattle.lvdc_logic.specs.Logic.{latch_of}
use Rattle.lvdc_machine.specs.View.{bus_of_votes}
use Rattle.lvdc_machine.specs.Stands.{shown_of}
use Rattle.lvdc_machine.specs.declared.shown.Shown.{Shown}
use Rattle.lvdc_machine.specs.declared.shown.Shown.TheVariants.{Known, Unknown}
use Rattle.lvdc_lines.specs.Noted.{lines_below}
use Rattle.lvdc_report.specs.Report.{end_text, memory_line, unknown_line, registers_text}
use Rattle.lvdc_report.specs.Voted.{visible_of}
use Rattle.lvdc_debug.specs.declared.command.Spot2.{Spot2}
use Rattle.lvdc_debug.specs.declared.command.Command.{Command}
use Rattle.lvdc_debug.specs.declared.command.Command.TheVariants.{Step, Go, Break, Regs, Mem, Dis, Copies}
use Rattle.lvdc_debug.specs.declared.course.Course.{Course}
use Rattle.lvdc_debug.specs.Commands.{command_in, without_outer_blanks}
use Rattle.lvdc_debug.specs.Breaks.{is_set, takes, with_break}

-- ---- what is debugged

-- a device that fails: in the exchange of which step, and at which port
pub record Failure : Type 0 where
  pub step : ℕ
  pub port : ℕ

-- the state of the guarded run after so many times; where a device fails, it is from that exchange on the state in which the
-- failure left it
abbrev pub state_after : Option Failure → Trial → ℕ → Voted
state_after None o times = guarded o (3 * times)
state_after (Some f) o times =
    if nat_lt f.step (3 * times) then with_end (begin_step o (guarded o f.step)) (Device f.step f.port) else guarded o (3 * times)

-- a trial, its state after so many times, and how many times it may make
pub record Subject : Type 0 where
  pub trial : Trial
  pub state : ℕ → Voted
  pub limit : ℕ

-- where a session is at first: no time was asked for, and no breakpoint is set
abbrev pub at_start : Course
at_start = record { asked = 0; breaks = [] }

-- ---- how far a command goes

-- the times that may still be asked for
abbrev pub left : Subject → ℕ → ℕ
left s asked = s.limit - asked

-- the place of the instruction that is to be fetched
abbrev pub place_of : Trial → Voted → Spot2
place_of o v = record { at = fetch_of o.opening.banks (visible_of v).place; syl = (visible_of v).place.syl }

-- no hold is left, and the place is a breakpoint
abbrev pub is_at_break : Trial → List Spot2 → Voted → Bool
is_at_break o breaks v = hold (bus_of_votes v.copies) == 0 && is_set breaks (place_of o v)

-- the run goes no further: it has ended, or it is at a breakpoint
abbrev pub rests : Trial → List Spot2 → Voted → Bool
rests o breaks v = is_some v.end || is_at_break o breaks v

-- the first number after this one that is so; where none of the next so many is, the last of them
abbrev pub first_after : (ℕ → Bool) → ℕ → ℕ → ℕ
first_after so number zero = number
first_after so number (suc more) = if so (number + 1) then number + 1 else first_after so (number + 1) more

-- the run rests after so many times
abbrev pub rests_after : Subject → List Spot2 → ℕ → Bool
rests_after s breaks times = rests s.trial breaks (s.state times)

-- for how many times the session has asked after a command
abbrev pub asked_by : Subject → Course → Command → ℕ
asked_by s c (Step n) = c.asked + min n (left s c.asked)
asked_by s c Go = first_after (rests_after s c.breaks) c.asked (left s c.asked)
asked_by s c command = c.asked

-- the breakpoints after a command
abbrev pub breaks_by : List Spot2 → Command → List Spot2
breaks_by breaks (Break spot) = with_break breaks spot
breaks_by breaks command = breaks

-- where the session is after a command
abbrev pub after_command : Subject → Course → Command → Course
after_command s c command = record { asked = asked_by s c command; breaks = breaks_by c.breaks command }

-- the command does all that it was asked, within the limit
abbrev pub does_all : Subject → Course → Command → Bool
does_all s c (Step n) = nat_le n (left s c.asked)
does_all s c Go = nat_lt c.asked (asked_by s c Go) && rests_after s c.breaks (asked_by s c Go)
does_all s c (Break spot) = takes c.breaks spot
does_all s c command = true

-- ---- texts

-- pair or module, sector, syllable and location in one, two, one and three octal digits
abbrev pub place_text : ℕ → ℕ → ℕ → ℕ → List ℕ
place_text pair sector syl loc =
    octal_text 1 pair ++ codes " " ++ octal_text 2 sector ++ codes " " ++ octal_text 1 syl ++ codes " " ++ octal_text 3 loc

-- where the run goes on, after how many times
abbrev pub at_line : Visible → List ℕ
at_line v = codes "AT " ++ decimal v.times ++ codes " " ++ place_text v.place.imod v.place.isec v.place.syl v.place.loc ++ codes "\n"

-- the limit is reached
abbrev pub limit_line : Visible → List ℕ
limit_line v = codes "LIMIT " ++ decimal v.times ++ codes "\n"

-- how far the run has come: the END line where it has ended; else where it is, or that the limit came before all was done
abbrev pub came_text : Option Outcome → Bool → Visible → List ℕ
came_text (Some end) all v = end_text end
came_text None true v = at_line v
came_text None false v = limit_line v

-- how many breakpoints there are, or that there is no room for one more
abbrev pub breaks_text : Bool → ℕ → List ℕ
breaks_text true count = codes "BREAKS " ++ decimal count ++ codes "\n"
breaks_text false count = codes "BREAKS FULL\n"

-- the place so many locations further on
abbrev pub further : Spot → ℕ → Spot
further at more = record at { loc = at.loc + more }

-- the line of a word by what is shown of it
abbrev pub word_shown : Spot → Shown → List ℕ
word_shown at (Known word) = memory_line at word
word_shown at Unknown = unknown_line at

-- the lines of so many words from a place on
abbrev pub mem_text : Trial → Voted → Spot → ℕ → List ℕ
mem_text o v at count = lines_below (λ more. word_shown (further at more) (shown_of o v (further at more))) count

-- a syllable of a word
abbrev pub syllable_of : ℕ → ℕ → ℕ
syllable_of syl word = if syl == 1 then upper word else lower word

-- a syllable in octal and as an instruction
abbrev pub instruction_text : ℕ → List ℕ
instruction_text bits = octal_text 5 bits ++ codes " " ++ printed (instr bits)

-- the line of an instruction by what is shown of its word
abbrev pub instruction_shown : Spot → ℕ → Shown → List ℕ
instruction_shown at syl (Known word) =
    place_text at.pair at.sector syl at.loc ++ codes " " ++ instruction_text (syllable_of syl word) ++ codes "\n"
instruction_shown at syl Unknown = place_text at.pair at.sector syl at.loc ++ codes " ?\n"

-- the lines of so many instructions from a place on, as memory holds them
abbrev pub dis_text : Trial → Voted → Spot → ℕ → ℕ → List ℕ
dis_text o v at syl count = lines_below (λ more. instruction_shown (further at more) syl (shown_of o v (further at more))) count

-- the word of a latch
abbrev pub latch_text : ℕ → List ℕ
latch_text word = codes " " ++ octal_text 9 word

-- all latches of a copy, by rising index
abbrev pub latches_text : List vote.Copies → ℕ → ℕ → List ℕ
latches_text copies number copy = lines_below (λ index. latch_text (latch_of copies number copy index)) (latches_of number)

-- the line of a copy
abbrev pub copy_line : List vote.Copies → ℕ → ℕ → List ℕ
copy_line copies number copy =
    codes "COPY " ++ decimal number ++ codes " " ++ decimal copy ++ latches_text copies number copy ++ codes "\n"

-- the lines of the three copies of a module
abbrev pub copies_text : List vote.Copies → ℕ → List ℕ
copies_text copies number = copy_line copies number 1 ++ copy_line copies number 2 ++ copy_line copies number 3

-- the answer to a command that has led to this state and these breakpoints, and has done all that it was asked or has not
abbrev pub answer_text : Trial → Voted → List Spot2 → Bool → Command → List ℕ
answer_text o v breaks all (Step n) = came_text v.end all (visible_of v)
answer_text o v breaks all Go = came_text v.end all (visible_of v)
answer_text o v breaks all (Break spot) = breaks_text all (length breaks)
answer_text o v breaks all Regs = registers_text (visible_of v)
answer_text o v breaks all (Mem at count) = mem_text o v at count
answer_text o v breaks all (Dis at syl count) = dis_text o v at syl count
answer_text o v breaks all (Copies number) = copies_text v.copies number

-- ---- the session

-- the answer to a command of a session
abbrev pub answer : Subject → Course → Command → List ℕ
answer s c command =
    answer_text s.trial (s.state (asked_by s c command)) (breaks_by c.breaks command) (does_all s c command) command

-- the same to a line that may be none
abbrev pub line_answer : Subject → Course → Option Command → List ℕ
line_answer s c (Some command) = answer s c command
line_answer s c None = codes "BAD COMMAND\n"

-- where the session stands after a line: what is no command changes nothing
abbrev pub line_course : Subject → Course → Option Command → Course
line_course s c (Some command) = after_command s c command
line_course s c None = c

-- where the session is after a line
abbrev pub after_line : Subject → Course → List ℕ → Course
after_line s c text = line_course s c (command_in (token_texts_of text))

-- a line as it is written again, without outer blanks
abbrev pub echo_line : List ℕ → List ℕ
echo_line text = codes "> " ++ without_outer_blanks text ++ codes "\n"

-- a line and its answer
abbrev pub entry : Subject → Course → List ℕ → List ℕ
entry s c text = echo_line text ++ line_answer s c (command_in (token_texts_of text))

-- the entries of these lines, one after the other
unfoldable pub entries : Subject → Course → List (List ℕ) → List ℕ
entries s c [] = []
entries s c (text ∷ texts) = entry s c text ++ entries s (after_line s c text) texts

-- the whole session over these lines
abbrev pub session_text : Subject → List (List ℕ) → List ℕ
session_text s texts = codes "LVDC DEBUG\n" ++ entries s at_start texts

-- for how many times these lines ask together
abbrev pub times_asked : Subject → List (List ℕ) → ℕ
times_asked s texts = (fold (after_line s) at_start texts).asked
