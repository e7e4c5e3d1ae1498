use Rattle.std.proofs.lemmas.Result.{IfOk-weaker}
use Rattle.std.proofs.Common.{inl, inr, refl}
use Rattle.lvdc_command_run.specs.Runs.{Judges, Stops, IsStop}
use Rattle.lvdc_command_resume.specs.Statuses.{IsInadmissible}
use Rattle.lvdc_cli.proofs.Answered.{reply_answer, reply_quiet, reply_kept}
use Rattle.lvdc_cli.proofs.Commands.{reply_headline, reply_runs, reply_is}
use Rattle.lvdc_cli.proofs.join.reply.Goals as goal

pub returns-clause-answer : goal.returns-clause-answer
returns-clause-answer g c = IfOk-weaker c.join.result _ _ (λ r h free. reply_answer _ free h) c.join.ensures.reply

pub returns-clause-headline : goal.returns-clause-headline
returns-clause-headline g c =
    IfOk-weaker c.join.result _ _ (λ r h free deck is means. reply_headline c.args.command c.args.bytes.now c.headline_told.ensures _ free h deck is means) c.join.ensures.reply

pub returns-clause-inadmissible : goal.returns-clause-inadmissible
returns-clause-inadmissible g c =
    IfOk-weaker c.join.result _ _ (λ r h. record {
      only = λ is. reply_runs c.args.command c.args.bytes.now Judges IsInadmissible 5 (inl refl) (record { of_job = c.statuses_caused.ensures.inadmissible; of_session = c.session_statuses.ensures.inadmissible; of_save = c.save_statuses.ensures.inadmissible; of_resume = c.resume_statuses.ensures.inadmissible }) _ is h;
      always = λ free runs. reply_is c.args.command c.args.bytes.now Judges IsInadmissible 5 (record { of_job = c.statuses_caused.ensures.inadmissible_always; of_session = c.session_statuses.ensures.inadmissible_always; of_save = c.save_statuses.ensures.inadmissible_always; of_resume = c.resume_statuses.ensures.inadmissible_always }) _ free h runs;
    }) c.join.ensures.reply

pub returns-clause-stopped : goal.returns-clause-stopped
returns-clause-stopped g c =
    IfOk-weaker c.join.result _ _ (λ r h. record {
      only = λ is. reply_runs c.args.command c.args.bytes.now Stops IsStop 6 (inr refl) (record { of_job = c.statuses_caused.ensures.stopped; of_session = c.session_statuses.ensures.stopped; of_save = c.save_statuses.ensures.stopped; of_resume = c.resume_statuses.ensures.stopped }) _ is h;
      always = λ free runs. reply_is c.args.command c.args.bytes.now Stops IsStop 6 (record { of_job = c.statuses_caused.ensures.stopped_always; of_session = c.session_statuses.ensures.stopped_always; of_save = c.save_statuses.ensures.stopped_always; of_resume = c.resume_statuses.ensures.stopped_always }) _ free h runs;
    }) c.join.ensures.reply

pub returns-clause-kept : goal.returns-clause-kept
returns-clause-kept g c =
    IfOk-weaker c.join.result _ _ (λ r h. record { refused = λ refused. reply_kept _ refused h; quiet = λ free. reply_quiet _ free h }) c.join.ensures.reply
