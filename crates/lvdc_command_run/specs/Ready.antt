-- What a want of memory leaves while a machine of a deck is made.
use Rattle.std.specs.Prelude.{◌≡◌, ℕ, List, take}
use Rattle.lvdc_port.specs.Device.{Device}
use Rattle.lvdc_port.specs.Supplies.{supplied}
use Rattle.lvdc_deck.specs.declared.deck.Deck.{Deck}

-- words of the deck's TAPE lines were supplied, the first so many or all
pub record AreSupplied (deck : Deck) (old new : List Device) : Type 0 where
  pub count : ℕ
  pub devices : new ≡ supplied (take count deck.supplies) old
