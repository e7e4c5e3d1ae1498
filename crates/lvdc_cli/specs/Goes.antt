-- A text from which the run of a deck goes on.
use Rattle.std.specs.Prelude.{◌≡◌, ℕ, false, List, Ok}
use Rattle.lvdc_port.specs.Device.{Device}
use Rattle.lvdc_plain.specs.Run.{IsOpening}
use Rattle.lvdc_model.specs.Runs.{guarded}
use Rattle.lvdc_deck.specs.Deck.{deck_of}
use Rattle.lvdc_deck.specs.declared.deck.Deck.{Deck}
use Rattle.lvdc_save.specs.Reading.{saved_of}
use Rattle.lvdc_save.specs.declared.saved.Saved.{Saved}
use Rattle.lvdc_command_run.specs.Trials.{trial_of}
use Rattle.lvdc_command_resume.specs.Finished.{MeansOf}

-- over the devices that are there now the text means a saved run, with the count of the deck that these bytes mean over the devices
-- that were there before; and that is the state of the deck's guarded run after its steps
pub record TellsRun (bytes : List ℕ) (before now : List Device) (text : List ℕ) : Type 0 where
  pub deck : Deck
  pub means : deck_of bytes before false ≡ Ok deck
  pub opening : IsOpening (trial_of before deck).opening
  pub saved : Saved
  pub read : saved_of now text ≡ Ok saved
  pub count : saved.count ≡ deck.count
  pub state : MeansOf saved now (trial_of before deck) (guarded (trial_of before deck) saved.snapshot.steps)
