-- The text of a trace: the steps of a window of a run, as far as they are made, and what came of the run. The run goes on from a
-- state, and its window is counted from there; the run of a deck goes on from the state of its start.
use Rattle.std.specs.Prelude.{ℕ, suc, ◌+◌, ◌-◌, ◌*◌, min, Bool, true, false, ◌==◌, nat_le, List, [], ◌++◌, codes}
use Rattle.std.specs.declared.option.Option.{Option}
use Rattle.std.specs.declared.option.Option.TheVariants.{None, Some}
use Rattle.lvdc_model.specs.declared.outcome.Outcome.{Outcome}
use Rattle.lvdc_model.specs.declared.outcome.Outcome.TheVariants.{Done, Device}
use Rattle.lvdc_model.specs.Trial.{Trial}
use Rattle.lvdc_model.specs.Voted.{Voted, voted_start}
use Rattle.lvdc_machine.specs.Made.{made_next}
use Rattle.lvdc_machine.specs.Resumed.{steps_since}
use Rattle.lvdc_machine.specs.Steps.{run_from}
use Rattle.lvdc_machine.specs.declared.made.Made.{Made}
use Rattle.lvdc_machine.specs.declared.mode.Mode.{Mode}
use Rattle.lvdc_machine.specs.declared.mode.Mode.TheVariants.{Guarded, Through}
use Rattle.lvdc_lines.specs.Noted.{lines_below}
use Rattle.lvdc_report.specs.Report.{end_text}
use Rattle.lvdc_trace.specs.declared.window.Window.{Window}
use Rattle.lvdc_trace.specs.Steps.{step_text}

-- ---- the steps

-- the lines of a step between two states, if it was made; it has its number in the whole run
abbrev pub block : Bool → Option Made → Trial → Voted → Voted → List ℕ
block first None o before after = []
block first (Some made) o before after = step_text first o.script before.steps made before.copies after.copies

-- the lines of the step that comes so many steps after a state, where the run makes it
abbrev pub step_block : Bool → Mode → Trial → Voted → ℕ → List ℕ
step_block first mode o begin made =
    block first (made_next mode o (run_from mode o begin made)) o (run_from mode o begin made) (run_from mode o begin (suc made))

-- the lines of so many steps, the first of which comes so many steps after a state
abbrev pub blocks : Mode → Trial → Voted → ℕ → ℕ → List ℕ
blocks mode o begin from count = lines_below (λ index. step_block (index == 0) mode o begin (from + index)) count

-- ---- the window

-- the window from a state on that so many steps are behind: where it begins before that state, it begins with it
abbrev pub window_after : ℕ → Window → Window
window_after steps w = record { first = w.first - steps; count = w.count }

-- of so many steps that are left, those up to the end of a window
abbrev pub steps_asked : Window → ℕ → ℕ
steps_asked w left = min (w.first + w.count) left

-- those of them that lie in the window
abbrev pub steps_told : Window → ℕ → ℕ
steps_told w left = steps_asked w left - w.first

-- ---- the whole

-- the first line
abbrev pub title_line : Mode → List ℕ
title_line Guarded = codes "LVDC TRACE\n"
title_line Through = codes "LVDC TRACE THROUGH\n"

-- the last line: the end that has come; else that all steps of the run were made, or that more are left
abbrev pub last_line : Option Outcome → Bool → List ℕ
last_line (Some end) all = end_text end
last_line None true = end_text Done
last_line None false = codes "MORE\n"

-- the trace of a window of the run from a state, which has so many steps left
abbrev pub text_from : Mode → Trial → Voted → ℕ → Window → List ℕ
text_from mode o begin left w =
    title_line mode ++ blocks mode o begin w.first (steps_told w left)
    ++ last_line (run_from mode o begin (steps_asked w left)).end (nat_le left (w.first + w.count))

-- the trace of one in which the device at this port fails in the exchange of this step: the step isn't made
abbrev pub failed_from : Mode → Trial → Voted → Window → ℕ → ℕ → List ℕ
failed_from mode o begin w step port =
    title_line mode ++ blocks mode o begin w.first (steps_since begin.steps step - w.first) ++ end_text (Device step port)

-- ---- the run of a deck

-- the trace of a window of a trial's run of so many times
abbrev pub trace_text : Mode → Trial → ℕ → Window → List ℕ
trace_text mode o times w = text_from mode o (voted_start o) (3 * times) w

-- the same where the device at this port fails in the exchange of this step
abbrev pub failed_text : Mode → Trial → Window → ℕ → ℕ → List ℕ
failed_text mode o w step port = failed_from mode o (voted_start o) w step port
