-- What the statuses of a save come from.
use Rattle.std.specs.Prelude.{◌≡◌, ℕ, List, Ok}
use Rattle.lvdc_port.specs.Device.{Device}
use Rattle.lvdc_model.specs.Trial.{Trial}
use Rattle.lvdc_deck.specs.declared.deck.Deck.{Deck}
use Rattle.lvdc_command_run.specs.Trials.{trial_of}
use Rattle.lvdc_command_save.specs.Answers.{deck_for}

-- over these bytes and devices there is a deck that asks for at least so many times, and this is so of the run of these times
pub record HasSaveThat (P : Trial → ℕ → Type 0) (n : ℕ) (bytes : List ℕ) (devices : List Device) : Type 0 where
  pub deck : Deck
  pub means : deck_for n bytes devices ≡ Ok deck
  pub comes : P (trial_of devices deck) n
