use Rattle.std.proofs.Common.{◌≤◌, List, length, All, sym, subst, ◌∙◌}
use Rattle.lvdc_campaign.specs.Campaign.{program_of}
use Rattle.lvdc_campaign.specs.declared.row.Row.{Row}
use Rattle.lvdc_campaign_deck.specs.Scripts.{CanRun}
use Rattle.lvdc_fault.specs.declared.TheConstants.{MOST_EVENTS}
use Rattle.lvdc_command_campaign.proofs.Runnable.{rows-short}
use Rattle.lvdc_command_campaign.proofs.reply.run.Goals as goal

pub campaign_text-requires : goal.campaign_text-requires
campaign_text-requires c =
    let Short : List Row → Type 0 = λ rows. All (λ (row : Row). length row.name ≤ 8) rows in
    subst Short (sym (c.deref.ensures.value ∙ c.in_ok-rows.ensures.rows))
    (rows-short (program_of c.words.result.now c.args.deck.start c.args.deck.banks) c.args.deck.count c.into_vec.result.items
    (subst (All (CanRun MOST_EVENTS)) (sym c.into_vec.ensures) c.requires.run))
