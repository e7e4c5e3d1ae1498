use Rattle.std.proofs.Common.{rules}
use Rattle.lvdc_mul.proofs.Products.{multiply-lands}
use Rattle.lvdc_mul.proofs.unit.Unit.issue_multiply.Goals as goal

pub returns-clause-lands : goal.returns-clause-lands
returns-clause-lands c = multiply-lands c.args.a c.args.m c.args.high _ (search rules) (search rules) (search rules)
