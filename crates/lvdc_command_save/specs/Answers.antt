-- The answer to a deck that is to be saved after so many times: a status, the text that is written, and what the devices are then.
use Rattle.std.specs.Prelude.{ℕ, ◌*◌, nat_lt, false, List, if◌then◌else◌, Result, Ok, Err}
use Rattle.lvdc_port.specs.Device as device
use Rattle.lvdc_fault.specs.declared.event.Event.{Event}
use Rattle.lvdc_plain.specs.declared.records.Unplug.{Unplug}
use Rattle.lvdc_model.specs.declared.outcome.Outcome.{Outcome}
use Rattle.lvdc_model.specs.declared.outcome.Outcome.TheVariants.{Done}
use Rattle.lvdc_model.specs.Runs.{guarded}
use Rattle.lvdc_model.specs.Voted.{Voted}
use Rattle.lvdc_deck.specs.Deck.{and_then, deck_of}
use Rattle.lvdc_deck.specs.declared.deck.Deck.{Deck}
use Rattle.lvdc_deck.specs.declared.fault.DeckFault.{DeckFault}
use Rattle.lvdc_deck.specs.declared.fault.DeckFault.TheVariants.{CountTooLarge}
use Rattle.lvdc_save.specs.Saved.{saved_text}
use Rattle.lvdc_save.specs.declared.saved.Saved.{Saved}
use Rattle.lvdc_reply.specs.Answer.{Answer, answer_with}
use Rattle.lvdc_command_run.specs.Accounts.{account}
use Rattle.lvdc_command_run.specs.Answers.{run_answer}
use Rattle.lvdc_command_run.specs.Refusals.{refused_answer}
use Rattle.lvdc_command_run.specs.Trials.{trial_of}
use Rattle.lvdc_command_run.specs.declared.job.Engine.TheVariants.{Guarded}
use Rattle.lvdc_command_run.specs.declared.job.Job.TheVariants as job
use Rattle.lvdc_command_save.specs.Snapshots.{snapshot_of}
use Rattle.lvdc_command_save.specs.States.{states_of}

-- ---- what is saved

-- a run that is stopped in this state: the state, with these simplex pairs, and what is asked of the run that goes on from it
abbrev pub saved_by : ℕ → Voted → ℕ → List Unplug → List Event → List (List ℕ) → Saved
saved_by banks v count unplugs script orders =
    record {
      snapshot = snapshot_of banks v;
      count = count;
      states = states_of v.devices;
      unplugs = unplugs;
      script = script;
      orders = orders;
    }

-- the same of a deck's run
abbrev pub saved_in : Deck → Voted → Saved
saved_in deck v = saved_by deck.banks v deck.count deck.unplugs deck.script deck.orders

-- the state to which a deck's run over these devices comes in so many times, or where it ends
abbrev pub state_after : List device.Device → Deck → ℕ → Voted
state_after devices deck n = guarded (trial_of devices deck) (3 * n)

-- what is saved of that run after so many times
abbrev pub saved_after : List device.Device → Deck → ℕ → Saved
saved_after devices deck n = saved_in deck (state_after devices deck n)

-- ---- the answer

-- the saved text, and the devices as they are then
abbrev pub saved_answer : List device.Device → Deck → ℕ → Answer
saved_answer devices deck n = answer_with 0 (saved_text (saved_after devices deck n)) (state_after devices deck n).devices

-- by the end that the account of these times tells: where it is one before the last of them is over, the answer of `run` is due
abbrev pub answer_by_end : Outcome → List device.Device → Deck → ℕ → Answer
answer_by_end Done devices deck n = saved_answer devices deck n
answer_by_end end devices deck n = run_answer (job.Deck Guarded) (trial_of devices deck) n

-- the answer to a deck
abbrev pub stop_answer : List device.Device → Deck → ℕ → Answer
stop_answer devices deck n = answer_by_end (account (trial_of devices deck) n).end devices deck n

-- the deck that asks for at least so many times; one that asks for fewer is refused at RUN's line
abbrev pub deck_within : ℕ → Deck → Result Deck DeckFault
deck_within n deck = if nat_lt deck.count n then Err (CountTooLarge deck.run_line) else Ok deck

-- the deck that the bytes mean over these devices, which asks for at least so many times; or its first refusal
abbrev pub deck_for : ℕ → List ℕ → List device.Device → Result Deck DeckFault
deck_for n bytes devices = and_then (deck_of bytes devices false) (deck_within n)

-- the answer to a deck, or to its refusal
abbrev pub answer_by_deck : ℕ → List device.Device → Result Deck DeckFault → Answer
answer_by_deck n devices (Ok deck) = stop_answer devices deck n
answer_by_deck n devices (Err fault) = refused_answer devices fault

-- the answer to a number of times over these bytes and devices, where no device fails
abbrev pub save_answer : ℕ → List ℕ → List device.Device → Answer
save_answer n bytes devices = answer_by_deck n devices (deck_for n bytes devices)
