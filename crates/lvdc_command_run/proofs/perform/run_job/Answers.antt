use Rattle.std.proofs.lemmas.Result.{IfOk-weaker}
use Rattle.lvdc_command_run.proofs.Jobs.{job_replied, soak_unanswered}
use Rattle.lvdc_command_run.proofs.perform.run_job.Goals as goal

pub returns-in-Deck-clause-reply : goal.returns-in-Deck-clause-reply
returns-in-Deck-clause-reply g c =
    IfOk-weaker c.run_bytes.result _ _ (λ r h. job_replied c.args.job _ c.args.bytes.now _ c.in-Deck.is h) c.run_bytes.ensures.reply

pub returns-in-Deck-clause-unanswered : goal.returns-in-Deck-clause-unanswered
returns-in-Deck-clause-unanswered g c = rw c.in-Deck.is c.run_bytes.ensures.unanswered

pub returns-in-Soak-clause-reply : goal.returns-in-Soak-clause-reply
returns-in-Soak-clause-reply g c =
    IfOk-weaker c.run_soak.result _ _ (λ r h. job_replied c.args.job _ c.args.bytes.now _ c.in-Soak.is (h c.args.bytes.now)) c.run_soak.ensures.reply

pub returns-in-Soak-clause-unanswered : goal.returns-in-Soak-clause-unanswered
returns-in-Soak-clause-unanswered g c = rw c.in-Soak.is (soak_unanswered _ _ c.in-Soak.number c.args.bytes.now _ _ c.run_soak.result c.run_soak.ensures.unanswered)
