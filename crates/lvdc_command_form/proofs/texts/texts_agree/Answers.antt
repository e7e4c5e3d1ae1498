use Rattle.lvdc_command_form.proofs.Alike.{whole-alike, failed-alike}
use Rattle.lvdc_command_form.proofs.texts.texts_agree.Goals as goal

pub returns-clause-whole : goal.returns-clause-whole
returns-clause-whole c = whole-alike c.ports_match.ensures

pub returns-clause-failed : goal.returns-clause-failed
returns-clause-failed c = failed-alike c.ports_match.ensures
