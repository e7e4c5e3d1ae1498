-- The answer to a trace over bytes and devices: a status, the text that is written, and what the devices are then.
use Rattle.std.specs.Prelude.{ℕ, ◌*◌, Bool, false, List, [], ◌∷◌, codes, if◌then◌else◌, Result, Ok, Err}
use Rattle.std.specs.Str.{bytes_eq}
use Rattle.lvdc_text.specs.Lines.{texts_of}
use Rattle.lvdc_port.specs.Device.{Device}
use Rattle.lvdc_model.specs.Exchanges.{begin_step}
use Rattle.lvdc_model.specs.Trial.{Trial}
use Rattle.lvdc_model.specs.Voted.{Voted, voted_start}
use Rattle.lvdc_machine.specs.Resumed.{run_to}
use Rattle.lvdc_machine.specs.Steps.{run_from}
use Rattle.lvdc_machine.specs.View.{answer_of_end}
use Rattle.lvdc_machine.specs.declared.mode.Mode.{Mode}
use Rattle.lvdc_machine.specs.declared.mode.Mode.TheVariants.{Guarded, Through}
use Rattle.lvdc_deck.specs.Deck.{deck_of}
use Rattle.lvdc_deck.specs.declared.deck.Deck.{Deck}
use Rattle.lvdc_deck.specs.declared.fault.DeckFault.{DeckFault}
use Rattle.lvdc_reply.specs.Answer.{Answer, answer_with}
use Rattle.lvdc_command_run.specs.Accounts.{end_status}
use Rattle.lvdc_command_run.specs.Refusals.{refused_answer}
use Rattle.lvdc_command_run.specs.Trials.{trial_of}
use Rattle.lvdc_save.specs.Reading.{saved_of}
use Rattle.lvdc_save.specs.declared.saved.Saved.{Saved}
use Rattle.lvdc_save.specs.declared.fault.SaveFault.{SaveFault}
use Rattle.lvdc_command_resume.specs.Answers.{saved_answer}
use Rattle.lvdc_command_resume.specs.Runs as resumed
use Rattle.lvdc_command_resume.specs.Runs.{first_state, steps_left}
use Rattle.lvdc_trace.specs.declared.window.Window.{Window}
use Rattle.lvdc_trace.specs.Traces.{window_after, steps_asked, text_from, failed_from}

-- ---- a run

-- the run from a state, which has so many steps left, up to the end of a window
abbrev pub cut_run : Mode → Trial → Voted → ℕ → Window → Voted
cut_run mode o begin left w = run_from mode o begin (steps_asked w left)

-- the answer to a trace of it in which no device fails: the status is that of the run so far
abbrev pub answer_from : Mode → Trial → Voted → ℕ → Window → Answer
answer_from mode o begin left w =
    answer_with (end_status (answer_of_end (cut_run mode o begin left w).end)) (text_from mode o begin left w) (cut_run mode o begin left w).devices

-- that to one in which the device at this port fails in the exchange of this step
abbrev pub broken_from : Mode → Trial → Voted → Window → ℕ → ℕ → Answer
broken_from mode o begin w step port = answer_with 10 (failed_from mode o begin w step port) (begin_step o (run_to mode o begin step)).devices

-- ---- a deck

-- the answer to a trace of a trial's run of so many times
abbrev pub whole_trace : Mode → Trial → ℕ → Window → Answer
whole_trace mode o times w = answer_from mode o (voted_start o) (3 * times) w

-- the same where the device at this port fails in the exchange of this step
abbrev pub failed_trace : Mode → Trial → Window → ℕ → ℕ → Answer
failed_trace mode o w step port = broken_from mode o (voted_start o) w step port

-- the answer to a deck, or to its refusal
abbrev pub deck_trace : Mode → Window → List Device → Result Deck DeckFault → Answer
deck_trace mode w devices (Ok deck) = whole_trace mode (trial_of devices deck) deck.count w
deck_trace mode w devices (Err fault) = refused_answer devices fault

-- ---- a saved text

-- the answer to a trace of the run that goes on from a saved state: steps keep their numbers in the whole run
abbrev pub resumed_trace : Mode → Window → Saved → List Device → Answer
resumed_trace mode w s devices =
    answer_from mode (resumed.trial_of s devices) (first_state s devices) (steps_left s) (window_after s.snapshot.steps w)

-- the same where the device at this port fails in the exchange of this step
abbrev pub broken_trace : Mode → Window → Saved → List Device → ℕ → ℕ → Answer
broken_trace mode w s devices step port =
    broken_from mode (resumed.trial_of s devices) (first_state s devices) (window_after s.snapshot.steps w) step port

-- the answer to a saved state; a text that is refused is answered as `resume` answers it
abbrev pub saved_trace : Mode → Window → List Device → Result Saved SaveFault → Answer
saved_trace mode w devices (Ok s) = resumed_trace mode w s devices
saved_trace mode w devices (Err fault) = saved_answer devices (Err fault)

-- ---- bytes

-- the first of these lines is the title of a saved text
abbrev pub begins_saved : List (List ℕ) → Bool
begins_saved [] = false
begins_saved (text ∷ texts) = bytes_eq text (codes "LVDC SAVE 1")

-- the first line of the bytes is: they are a saved text, and no deck
abbrev pub is_saved : List ℕ → Bool
is_saved bytes = begins_saved (texts_of bytes)

-- they are one for a trace of this mode; one through every fault takes decks alone
abbrev pub takes_saved : Mode → List ℕ → Bool
takes_saved Guarded bytes = is_saved bytes
takes_saved Through bytes = false

-- the answer to a trace over these bytes and devices, where no device fails; the commands of a deck aren't carried out
abbrev pub trace_answer : Mode → Window → List ℕ → List Device → Answer
trace_answer mode w bytes devices =
    if takes_saved mode bytes then saved_trace mode w devices (saved_of devices bytes) else deck_trace mode w devices (deck_of bytes devices false)
