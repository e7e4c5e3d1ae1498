use Rattle.std.proofs.Common.{rules}
use Rattle.lvdc_vote.specs.Bits.{majority}
use Rattle.lvdc_vote.proofs.BitLaws.{majority-bits}
use Rattle.lvdc_vote.proofs.bits.majority.Goals as goal

pub returns-clause-value : goal.returns-clause-value
unfolding majority
returns-clause-value c = search rules

pub returns-clause-bits : goal.returns-clause-bits
unfolding majority
returns-clause-bits c = λ i. rw (returns-clause-value c) (majority-bits c.args.a c.args.b c.args.c i)
