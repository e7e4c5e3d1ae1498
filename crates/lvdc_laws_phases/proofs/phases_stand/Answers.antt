use Rattle.lvdc_laws_phases.proofs.Stands.{stands}
use Rattle.lvdc_laws_phases.proofs.phases_stand.Goals as goal

pub returns : goal.returns
returns c =
    let phases = c.three_phases.ensures in stands phases.first phases.second phases.third c.phase_wishes.ensures c.times_keep_words.ensures
