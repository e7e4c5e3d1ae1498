use Rattle.std.proofs.Common.{rules}
use Rattle.lvdc_vote.specs.Bits.{forced}
use Rattle.lvdc_vote.proofs.BitLaws.{bit_at-forced}
use Rattle.lvdc_vote.proofs.bits.forced.Goals as goal

pub returns-clause-value : goal.returns-clause-value
unfolding forced
returns-clause-value c = search rules

pub returns-clause-bits : goal.returns-clause-bits
unfolding forced
returns-clause-bits c = λ i. rw (← bit_at-forced c.args.word c.args.mask c.args.value i) (search rules)
