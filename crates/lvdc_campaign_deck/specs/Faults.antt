-- What is told of a refused campaign: the name of the cause, and the line.
use Rattle.std.specs.Prelude.{ℕ, List, codes}
use Rattle.lvdc_deck.specs.Faults as deck
use Rattle.lvdc_campaign_deck.specs.declared.fault.CampaignFault.{CampaignFault}
use Rattle.lvdc_campaign_deck.specs.declared.fault.CampaignFault.TheVariants.{NoMemory, Deck, BadSection, BadLine, CountTooLarge, TooManyScripts, TooManyEvents}

-- the name of a cause; that of the deck is told by its own
abbrev pub name_of : CampaignFault → List ℕ
name_of NoMemory = codes "NoMemory"
name_of (Deck fault) = deck.name_of fault
name_of (BadSection line) = codes "BadSection"
name_of (BadLine line) = codes "BadLine"
name_of (CountTooLarge line) = codes "CountTooLarge"
name_of (TooManyScripts line) = codes "TooManyScripts"
name_of (TooManyEvents line) = codes "TooManyEvents"

-- the line that a cause names; the want of memory names none
abbrev pub line_of : CampaignFault → ℕ
line_of NoMemory = 0
line_of (Deck fault) = deck.line_of fault
line_of (BadSection line) = line
line_of (BadLine line) = line
line_of (CountTooLarge line) = line
line_of (TooManyScripts line) = line
line_of (TooManyEvents line) = line
