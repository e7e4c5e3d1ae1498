-- The answer to a debugging session over bytes and devices: a status, the text that is written, and what the devices are then.
use Rattle.std.specs.Prelude.{◌≡◌, ℕ, true, List, Result, Ok, Err, Option, None, Some}
use Rattle.lvdc_port.specs.Device.{Device}
use Rattle.lvdc_plain.specs.declared.records.Stop.{Stop}
use Rattle.lvdc_fault.specs.declared.verdict.Verdict.{Verdict}
use Rattle.lvdc_fault.specs.declared.verdict.Verdict.TheVariants.{Admissible, Logic, Memory}
use Rattle.lvdc_model.specs.Judging.{first_bad}
use Rattle.lvdc_model.specs.Trial.{Trial, plain_at}
use Rattle.lvdc_deck.specs.Deck.{deck_of}
use Rattle.lvdc_deck.specs.declared.deck.Deck.{Deck}
use Rattle.lvdc_deck.specs.declared.fault.DeckFault.{DeckFault}
use Rattle.lvdc_reply.specs.Answer.{Answer, answer_with}
use Rattle.lvdc_command_run.specs.Refusals.{refused_answer}
use Rattle.lvdc_command_run.specs.Trials.{trial_of}
use Rattle.lvdc_debug.specs.Session.{Failure, Subject, state_after, session_text, times_asked}
use Rattle.lvdc_debug.specs.Standing.{command_texts}

-- ---- what a deck's session is

-- what is debugged: the run of the deck's trial, with a failing device or none; the deck's count is the limit
abbrev pub subject_of : Option Failure → List Device → Deck → Subject
subject_of failure devices deck =
    record { trial = trial_of devices deck; state = state_after failure (trial_of devices deck); limit = deck.count }

-- for how many times the commands ask
abbrev pub asked_in : Option Failure → List ℕ → List Device → Deck → ℕ
asked_in failure bytes devices deck = times_asked (subject_of failure devices deck) (command_texts bytes deck.commands)

-- the text of the session
abbrev pub text_in : Option Failure → List ℕ → List Device → Deck → List ℕ
text_in failure bytes devices deck = session_text (subject_of failure devices deck) (command_texts bytes deck.commands)

-- the devices after a number of times
abbrev pub devices_after : Option Failure → List Device → Deck → ℕ → List Device
devices_after failure devices deck times = (state_after failure (trial_of devices deck) times).devices

-- ---- the status

-- 5 where a step is not admissible, 6 where the plain run stops, else 0
abbrev pub status_by : Verdict → Option Stop → ℕ
status_by Admissible None = 0
status_by Admissible (Some stop) = 6
status_by (Logic step number) stop = 5
status_by (Memory step at) stop = 5

-- that of so many times, by script and plain run alone
abbrev pub status_after : Trial → ℕ → ℕ
status_after o times = status_by (first_bad o times) (plain_at o times).stop

-- ---- answers

-- the answer to a deck's session in which no device fails
abbrev pub whole_session : List ℕ → List Device → Deck → Answer
whole_session bytes devices deck =
    answer_with (status_after (trial_of devices deck) (asked_in None bytes devices deck)) (text_in None bytes devices deck)
    (devices_after None devices deck (asked_in None bytes devices deck))

-- that to one in which this device fails in this exchange
abbrev pub failed_session : List ℕ → List Device → Deck → Failure → Answer
failed_session bytes devices deck f =
    answer_with 10 (text_in (Some f) bytes devices deck) (devices_after (Some f) devices deck (asked_in (Some f) bytes devices deck))

-- the answer to a deck, or to its refusal
abbrev pub deck_session : List ℕ → List Device → Result Deck DeckFault → Answer
deck_session bytes devices (Ok deck) = whole_session bytes devices deck
deck_session bytes devices (Err fault) = refused_answer devices fault

-- the answer to a session over these bytes and devices, where no device fails
abbrev pub session_answer : List ℕ → List Device → Answer
session_answer bytes devices = deck_session bytes devices (deck_of bytes devices true)

-- ---- what the times asked for come to

-- these bytes mean a deck whose commands ask for times that come to this
pub record HasSessionThat (P : Trial → ℕ → Type 0) (bytes : List ℕ) (devices : List Device) : Type 0 where
  pub deck : Deck
  pub means : deck_of bytes devices true ≡ Ok deck
  pub comes : P (trial_of devices deck) (asked_in None bytes devices deck)
