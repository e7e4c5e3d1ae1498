use Rattle.lvdc_laws_voted.proofs.Whole.{times-by, ends-by}
use Rattle.lvdc_laws_voted.proofs.following_shows.Goals as goal

pub returns-clause-shows : goal.returns-clause-shows
returns-clause-shows c o k v f = times-by c.laws_of_a_step.ensures.steps o k v f

pub returns-clause-end : goal.returns-clause-end
returns-clause-end c o k v f = (ends-by c.laws_of_a_step.ensures.steps o k v f).0

pub returns-clause-steps : goal.returns-clause-steps
returns-clause-steps c o k v f = (ends-by c.laws_of_a_step.ensures.steps o k v f).1
