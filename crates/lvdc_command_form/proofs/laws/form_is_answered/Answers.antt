use Rattle.lvdc_command_form.proofs.Plain.{as-plain}
use Rattle.lvdc_command_form.proofs.laws.form_is_answered.Goals as goal

pub returns : goal.returns
returns c = λ o n opens masked. as-plain o n (c.texts_agree.ensures.whole o n (c.form_masks.ensures o n opens masked))
