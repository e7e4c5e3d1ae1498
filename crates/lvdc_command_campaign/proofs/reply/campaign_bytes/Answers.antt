use Rattle.lvdc_command_campaign.proofs.Admitted.{same-of-each}
use Rattle.lvdc_command_campaign.proofs.reply.campaign_bytes.Goals as goal

pub returns-in-Ok-clause-same : goal.returns-in-Ok-clause-same
returns-in-Ok-clause-same g c = same-of-each c.run.result _ c.in-Ok.deck c.in-Ok.ensures.deck c.run.ensures.same
