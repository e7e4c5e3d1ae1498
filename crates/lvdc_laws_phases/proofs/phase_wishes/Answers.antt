use Rattle.lvdc_laws_phases.proofs.Wishes.{wishes}
use Rattle.lvdc_laws_phases.proofs.phase_wishes.Goals as goal

pub returns : goal.returns
returns c = wishes
