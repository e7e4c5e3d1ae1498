use Rattle.std.proofs.Common.{sym, ap, ◌∙◌}
use Rattle.std.proofs.lemmas.List.{take_rest}
use Rattle.lvdc_campaign_deck.specs.Campaign.{is_campaign}
use Rattle.lvdc_campaign_deck.proofs.Steps.{campaign-here, campaign-more, campaign-none}
use Rattle.lvdc_campaign_deck.proofs.layout.from_campaign.Goals as goal

pub returns-then-is_campaign-clause-lines : goal.returns-then-is_campaign-clause-lines
returns-then-is_campaign-clause-lines c =
    take_rest c.args.lines.now c.loop-at.at
    ∙ campaign-here c.args.bytes.now c.args.lines.now c.loop-at.at _ c.loop-at.invariant c.loop-at-test.true
    (ap is_campaign (sym c.part.ensures) ∙ sym c.is_campaign.ensures ∙ c.if-is_campaign.true)

pub loop-at-preserved : goal.loop-at-preserved
loop-at-preserved c =
    campaign-more c.args.bytes.now c.args.lines.now c.loop-at.at _ c.loop-at.invariant c.loop-at-test.true
    (ap is_campaign (sym c.part.ensures) ∙ sym c.is_campaign.ensures ∙ c.if-is_campaign.false)

pub returns-clause-lines : goal.returns-clause-lines
returns-clause-lines c = campaign-none c.args.bytes.now c.args.lines.now c.loop-at.at _ c.loop-at.invariant c.loop-at-test.false
