use Rattle.std.proofs.Common.{rules}
use Rattle.lvdc_mul.proofs.Quotients.{divide-lands}
use Rattle.lvdc_mul.proofs.unit.Unit.issue_divide.Goals as goal

pub returns-clause-lands : goal.returns-clause-lands
returns-clause-lands c = divide-lands c.args.a c.args.m _ (search rules) (search rules) (search rules)
