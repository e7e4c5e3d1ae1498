-- What is so of the deck that was read is so of each deck that the bytes mean.
use Rattle.std.proofs.Common.{◌≡◌, sym, subst, ◌∙◌, Result, Ok, Err, OnOk}
use Rattle.lvdc_campaign_deck.specs.declared.deck.CampaignDeck.{CampaignDeck}
use Rattle.lvdc_campaign_deck.specs.declared.fault.CampaignFault.{CampaignFault}
use Rattle.lvdc_command_campaign.specs.Answers.{rows_in, AreSame}

pub same-of-each : {T E : Type 0} (result : Result T E) (due : Result CampaignDeck CampaignFault) (deck : CampaignDeck) → due ≡ Ok deck
    → OnOk result (AreSame (rows_in deck)) → OnOk result ((other : CampaignDeck) → due ≡ Ok other → AreSame (rows_in other))
same-of-each (Ok answered) due deck is same = λ other means.
    let both : Ok deck ≡ Ok other = sym is ∙ means in
    let one : deck ≡ other = cc both in
    subst (λ (d : CampaignDeck). AreSame (rows_in d)) one same
same-of-each (Err wanting) due deck is same = tt
