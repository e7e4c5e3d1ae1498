use Rattle.std.proofs.Common.{◌*◌, subst}
use Rattle.lvdc_laws_voted.specs.Ends.{ShowsTimes}
use Rattle.lvdc_laws_failures.specs.Scripts.{scripted}
use Rattle.lvdc_laws_failures.proofs.Admitted.{scripted-one}
use Rattle.lvdc_laws_failures.proofs.Scripted.{scripted-run}
use Rattle.lvdc_laws_failures.proofs.scripts_are_adversaries.Goals as goal

pub returns-clause-run : goal.returns-clause-run
returns-clause-run c = scripted-run

pub returns-clause-one : goal.returns-clause-one
returns-clause-one c =
    scripted-one (record { votes = c.copies_agree.ensures.votes; copies = c.copies_agree.ensures.latch; comes = c.guarded_run.ensures }) c.none_wrong.ensures

pub returns-clause-times : goal.returns-clause-times
returns-clause-times c o ok times good =
    subst (ShowsTimes o times) (scripted-run o (3 * times)).voted
    (c.account_is_plain.ensures.times o (scripted o) ok times good
    (scripted-one (record { votes = c.copies_agree.ensures.votes; copies = c.copies_agree.ensures.latch; comes = c.guarded_run.ensures }) c.none_wrong.ensures o ok (3 * times) good))
