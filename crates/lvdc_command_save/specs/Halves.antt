-- What is known of a text that was saved, for the run that goes on from it.
use Rattle.std.specs.Prelude.{◌≡◌, ℕ, List, All, Ok}
use Rattle.std.specs.declared.option.Option.TheVariants.{None}
use Rattle.lvdc_port.specs.Device.{Device}
use Rattle.lvdc_port.specs.Devices.{AreDistinct}
use Rattle.lvdc_plain.specs.Run.{IsOpening}
use Rattle.lvdc_model.specs.Voted.{Voted}
use Rattle.lvdc_snapshot.specs.Snapshot.{IsWhole, Means}
use Rattle.lvdc_deck.specs.declared.deck.Deck.{Deck}
use Rattle.lvdc_save.specs.Printed.{IsPrinted, IsOfADeck}
use Rattle.lvdc_save.specs.Saved.{entries_of, saved_text}
use Rattle.lvdc_save.specs.declared.saved.Saved.{Saved}
use Rattle.lvdc_command_run.specs.Trials.{trial_of, IsRunnable}
use Rattle.lvdc_command_save.specs.Answers.{state_after, saved_after, deck_for}

-- a saved run was taken of this state: its snapshot is whole and means the state, and with a deck's times the line of each entry says
-- the entry again
pub record IsTaken (s : Saved) (v : Voted) : Type 0 where
  pub whole : IsWhole s.snapshot
  pub state : Means s.snapshot v
  pub printed : IsOfADeck s → All IsPrinted (entries_of s)

-- the text is the saved text of a deck's run after so many times, in which no end has come
pub record IsSavedRun (n : ℕ) (deck : Deck) (devices : List Device) (text : List ℕ) : Type 0 where
  pub opening : IsOpening (trial_of devices deck).opening
  pub going : (state_after devices deck n).end ≡ None
  pub taken : IsTaken (saved_after devices deck n) (state_after devices deck n)
  pub is : text ≡ saved_text (saved_after devices deck n)

-- the text is what `save` writes of the deck that these bytes mean, after so many times over these devices
pub record IsSaveOf (n : ℕ) (bytes : List ℕ) (devices : List Device) (text : List ℕ) : Type 0 where
  pub deck : Deck
  pub means : deck_for n bytes devices ≡ Ok deck
  pub runnable : IsRunnable deck
  pub distinct : AreDistinct devices
  pub run : IsSavedRun n deck devices text
