use Rattle.std.proofs.Common.{◌≡◌, drop}
use Rattle.lvdc_campaign_deck.specs.Campaign.{from_campaign}
use Rattle.lvdc_campaign_deck.proofs.layout.from_campaign.Given as goal

abbrev pub invariant-loop-at : goal.invariant-loop-at
invariant-loop-at l = from_campaign l.bytes (drop l.at l.lines) ≡ from_campaign l.bytes l.lines
