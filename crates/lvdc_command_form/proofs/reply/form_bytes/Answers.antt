use Rattle.std.proofs.lemmas.Result.{IfOk-weaker}
use Rattle.lvdc_command_run.specs.Trials.{trial_of}
use Rattle.lvdc_command_form.proofs.Telling.{runs-plainly}
use Rattle.lvdc_command_form.proofs.reply.form_bytes.Goals as goal

pub returns-in-Ok-clause-plain : goal.returns-in-Ok-clause-plain
returns-in-Ok-clause-plain g c =
    IfOk-weaker c.tell_form.result _ _
    (λ reply masks yes hold.
    runs-plainly c.args.bytes.now _ c.in-Ok.deck c.in-Ok.ensures.deck
    (c.form_is_answered.ensures (trial_of _ c.in-Ok.deck) c.in-Ok.deck.count (c.opens_with_words.ensures _ hold) (masks yes)))
    c.tell_form.ensures.masks
