-- The answer to a campaign: its rows, or its first refusal.
use Rattle.std.specs.Prelude.{◌≡◌, ℕ, true, List, All, Result, Ok, Err}
use Rattle.lvdc_port.specs.Device.{Device}
use Rattle.lvdc_fault.specs.declared.verdict.Verdict.TheVariants.{Admissible}
use Rattle.lvdc_reply.specs.Answer.{Answer, answer_with, refusal_text}
use Rattle.lvdc_command_run.specs.Refusals.{refusal_status}
use Rattle.lvdc_campaign.specs.declared.row.Row.{Row}
use Rattle.lvdc_campaign.specs.Campaign.{program_of, rows_of}
use Rattle.lvdc_campaign_deck.specs.Campaign.{campaign_of}
use Rattle.lvdc_campaign_deck.specs.Faults.{name_of, line_of}
use Rattle.lvdc_campaign_deck.specs.declared.deck.CampaignDeck.{CampaignDeck}
use Rattle.lvdc_campaign_deck.specs.declared.fault.CampaignFault.{CampaignFault}
use Rattle.lvdc_campaign_deck.specs.declared.fault.CampaignFault.TheVariants.{Deck}
use Rattle.lvdc_command_campaign.specs.Texts.{campaign_text}

-- the rows of a campaign
abbrev pub rows_in : CampaignDeck → List Row
rows_in deck = rows_of (program_of deck.image.words deck.start deck.banks) deck.count deck.scripts

-- the status of a refusal: that of a refused deck, else 2
abbrev pub fault_status : CampaignFault → ℕ
fault_status (Deck fault) = refusal_status fault
fault_status _ = 2

-- 0, or that of the refusal
abbrev pub status_of : Result CampaignDeck CampaignFault → ℕ
status_of (Ok deck) = 0
status_of (Err fault) = fault_status fault

-- the rows and their total, or the refusal
abbrev pub text_of : Result CampaignDeck CampaignFault → List ℕ
text_of (Ok deck) = campaign_text (rows_in deck)
text_of (Err fault) = refusal_text (name_of fault) (line_of fault)

-- the answer to a campaign; the devices stay as they are
abbrev pub campaign_answer : List ℕ → List Device → Answer
campaign_answer bytes devices = answer_with (status_of (campaign_of bytes devices)) (text_of (campaign_of bytes devices)) devices

-- each admissible row comes to the same
abbrev pub AreSame : List Row → Type 0
AreSame rows = All (λ row. row.verdict ≡ Admissible → row.same ≡ true) rows

-- so it is of the rows of the campaign in the bytes, where they are one
abbrev pub AdmissibleAreSame : List ℕ → List Device → Type 0
AdmissibleAreSame bytes devices = (deck : CampaignDeck) → campaign_of bytes devices ≡ Ok deck → AreSame (rows_in deck)
