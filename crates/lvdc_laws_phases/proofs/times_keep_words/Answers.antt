use Rattle.lvdc_laws_phases.proofs.Words.{step-fits}
use Rattle.lvdc_laws_phases.proofs.times_keep_words.Goals as goal

pub returns : goal.returns
returns c = step-fits
