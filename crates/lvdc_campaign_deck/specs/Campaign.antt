-- The campaign that bytes mean, or its first refusal.
use Rattle.std.specs.Prelude.{ℕ, ◌+◌, nat_lt, Bool, false, not, ◌&&◌, List, [], ◌∷◌, take, length, codes, if◌then◌else◌, Result, Ok, Err}
use Rattle.std.specs.declared.option.Option.{Option}
use Rattle.std.specs.declared.option.Option.TheVariants.{None, Some}
use Rattle.lvdc_text.specs.Headings.{is_alone}
use Rattle.lvdc_text.specs.Lines.{lines_of, part_of, is_long}
use Rattle.lvdc_text.specs.declared.cutting.Line.{Line}
use Rattle.lvdc_port.specs.Device.{Device}
use Rattle.lvdc_fault.specs.declared.named.Named.{Named}
use Rattle.lvdc_deck.specs.Deck.{after_program, deck_of}
use Rattle.lvdc_deck.specs.declared.deck.Deck.{Deck}
use Rattle.lvdc_deck.specs.declared.fault.DeckFault.{DeckFault}
use Rattle.lvdc_campaign_deck.specs.declared.TheConstants.{MOST_CAMPAIGN_TIMES, MOST_CAMPAIGN_SCRIPTS}
use Rattle.lvdc_campaign_deck.specs.declared.deck.CampaignDeck.{CampaignDeck}
use Rattle.lvdc_campaign_deck.specs.declared.fault.CampaignFault.{CampaignFault}
use Rattle.lvdc_campaign_deck.specs.declared.fault.CampaignFault.TheVariants.{BadSection, CountTooLarge, Deck as InDeck}
use Rattle.lvdc_campaign_deck.specs.Scripts.{and_then, nothing_said, scripts_from}

-- ---- lines

-- CAMPAIGN, on a line that isn't too long
abbrev pub is_campaign : List ℕ → Bool
is_campaign text = not (is_long text) && is_alone (codes "CAMPAIGN") text

-- from the first line CAMPAIGN on; no line where it's missing
unfoldable pub from_campaign : List ℕ → List Line → List Line
from_campaign bytes [] = []
from_campaign bytes (line ∷ lines) = if is_campaign (part_of bytes line) then line ∷ lines else from_campaign bytes lines

-- ---- the deck before CAMPAIGN

-- the deck that was read
abbrev pub by_deck : Result Deck DeckFault → Result Deck CampaignFault
by_deck (Ok deck) = Ok deck
by_deck (Err fault) = Err (InDeck fault)

-- the deck, unless a line opens a section that it may not have, which for a campaign are PORTS, FAULTS and DEBUG
abbrev pub by_others : Deck → Option ℕ → Result Deck CampaignFault
by_others deck None = Ok deck
by_others deck (Some number) = Err (BadSection number)

-- RUN's count isn't above the greatest of a campaign
abbrev pub by_count : Deck → Result Deck CampaignFault
by_count deck = if nat_lt MOST_CAMPAIGN_TIMES deck.count then Err (CountTooLarge deck.run_line) else Ok deck

-- both
abbrev pub checked : Deck → Result Deck CampaignFault
checked deck = and_then (by_others deck deck.other_line) by_count

-- the deck that the text before CAMPAIGN means over these devices
abbrev pub program_of : List ℕ → List Device → Result Deck CampaignFault
program_of text devices = and_then (by_deck (deck_of text devices false)) checked

-- ---- the whole

-- what the deck and the scripts ask for
abbrev pub campaign_with : Deck → List Named → CampaignDeck
campaign_with deck scripts =
    record { image = deck.image; start = deck.start; banks = deck.banks; orders = deck.orders; count = deck.count; scripts = scripts }

-- by the lines from CAMPAIGN on: the deck is that of the bytes before it; next is one more than the last line
abbrev pub by_lines : List ℕ → List Device → ℕ → List Line → Result CampaignDeck CampaignFault
by_lines bytes devices next [] = and_then (program_of bytes devices) (λ deck. Err (BadSection next))
by_lines bytes devices next (line ∷ lines) =
    and_then (program_of (take line.start bytes) devices)
    (λ deck. and_then (scripts_from bytes (nothing_said MOST_CAMPAIGN_SCRIPTS) lines) (λ scripts. Ok (campaign_with deck scripts)))

-- the campaign that the bytes mean, its deck over these devices; or its first refusal
abbrev pub campaign_of : List ℕ → List Device → Result CampaignDeck CampaignFault
campaign_of bytes devices =
    by_lines bytes devices (length (lines_of bytes) + 1) (from_campaign bytes (after_program bytes (lines_of bytes)))
