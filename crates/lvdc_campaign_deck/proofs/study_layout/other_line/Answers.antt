use Rattle.std.proofs.Common.{sym, ap, ◌∙◌}
use Rattle.lvdc_campaign_deck.specs.Campaign.{is_campaign}
use Rattle.lvdc_campaign_deck.specs.Study.{is_faults_or_debug}
use Rattle.lvdc_campaign_deck.proofs.StudySteps.{other-campaign, other-here, other-more, other-none}
use Rattle.lvdc_campaign_deck.proofs.study_layout.other_line.Goals as goal

pub returns-then-is_campaign : goal.returns-then-is_campaign
returns-then-is_campaign c =
    other-campaign c.args.bytes.now c.args.lines.now c.loop-line.line-index _ c.loop-line.invariant c.loop-line-test.true
    (ap is_campaign (sym c.part-text.ensures) ∙ sym c.is_campaign.ensures ∙ c.if-is_campaign.true)

pub returns-then-is_faults_or_debug : goal.returns-then-is_faults_or_debug
returns-then-is_faults_or_debug c =
    other-here c.args.bytes.now c.args.lines.now c.loop-line.line-index _ c.loop-line.invariant c.loop-line-test.true
    (ap is_campaign (sym c.part-text.ensures) ∙ sym c.is_campaign.ensures ∙ c.if-is_campaign.false)
    (ap is_faults_or_debug (sym c.part-text.ensures) ∙ sym c.is_faults_or_debug.ensures ∙ c.if-is_faults_or_debug.true)

pub loop-line-preserved : goal.loop-line-preserved
loop-line-preserved c =
    other-more c.args.bytes.now c.args.lines.now c.loop-line.line-index _ c.loop-line.invariant c.loop-line-test.true
    (ap is_campaign (sym c.part-text.ensures) ∙ sym c.is_campaign.ensures ∙ c.if-is_campaign.false)
    (ap is_faults_or_debug (sym c.part-text.ensures) ∙ sym c.is_faults_or_debug.ensures ∙ c.if-is_faults_or_debug.false)

pub returns : goal.returns
returns c = other-none c.args.bytes.now c.args.lines.now c.loop-line.line-index _ c.loop-line.invariant c.loop-line-test.false
