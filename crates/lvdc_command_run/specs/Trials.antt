-- The trial of a deck, and what is true of each deck.
use Rattle.std.specs.Prelude.{◌≡◌, ◌≤◌, true, All, List, length}
use Rattle.lvdc_map.specs.Memory.{are_rising, AllThere}
use Rattle.lvdc_port.specs.Device.{Device}
use Rattle.lvdc_port.specs.Supplies.{supplied}
use Rattle.lvdc_plain.specs.Run.{Opening}
use Rattle.lvdc_fault.specs.Events.{IsEvent}
use Rattle.lvdc_model.specs.Trial.{Trial}
use Rattle.lvdc_fault.specs.declared.TheConstants.{MOST_TIMES, MOST_EVENTS}
use Rattle.lvdc_deck.specs.declared.deck.Deck.{Deck}

-- the trial of a deck over these devices: the words of its TAPE lines stand behind those of the tapes; its orders are left out
abbrev pub trial_of : List Device → Deck → Trial
trial_of devices deck =
    let all = supplied deck.supplies devices in
    let o : Opening = record { image = deck.image.words; banks = deck.banks; start = deck.start; unplugs = deck.unplugs; devices = all } in
    record { opening = o; script = deck.script }

-- what is true of each deck that is read or drawn
pub record IsRunnable (deck : Deck) : Type 0 where
  pub count : deck.count ≤ MOST_TIMES
  pub rising : are_rising deck.image.words ≡ true
  pub there : AllThere deck.banks deck.image.words
  pub few : length deck.script ≤ MOST_EVENTS
  pub events : All IsEvent deck.script
