use Rattle.lvdc_laws_failures.proofs.Faces.{never-counted}
use Rattle.lvdc_laws_failures.proofs.Unseen.{unseen}
use Rattle.lvdc_laws_failures.proofs.disagreement_may_stay_unseen.Goals as goal

pub returns-clause-copy : goal.returns-clause-copy
returns-clause-copy c o a n m copy tells = (unseen o a n m copy tells).count

pub returns-clause-all : goal.returns-clause-all
returns-clause-all c = never-counted (record { votes = c.copies_agree.ensures.votes; copies = c.copies_agree.ensures.latch; comes = c.guarded_run.ensures })
