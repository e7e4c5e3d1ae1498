use Rattle.lvdc_machine.proofs.Standing.{stands-goes_on}
use Rattle.lvdc_machine.proofs.resumed.resumed_goes_on.Goals as goal

pub returns-clause-on : goal.returns-clause-on
returns-clause-on c = stands-goes_on

pub returns-clause-start : goal.returns-clause-start
returns-clause-start c = λ o t m ds h. h

pub returns-clause-back : goal.returns-clause-back
returns-clause-back c = λ o t m ds h. h
