use Rattle.std.proofs.Common.{◌∙◌}
use Rattle.lvdc_command_save.proofs.saving.reply_saved.Goals as goal

pub returns-clause-text : goal.returns-clause-text
returns-clause-text g c = λ o v shows. c.from_vec.ensures ∙ c.in_ok-text.ensures.text o v shows

pub returns-clause-taken : goal.returns-clause-taken
returns-clause-taken g c = c.in_ok-text.ensures.taken
