use Rattle.lvdc_twin.proofs.Mending.{found-one, found-two}
use Rattle.lvdc_twin.proofs.reading.survivor_is_read.Goals as goal

pub returns-clause-one : goal.returns-clause-one
returns-clause-one c = found-one

pub returns-clause-two : goal.returns-clause-two
returns-clause-two c = found-two
