use Rattle.std.proofs.Common.{rules}
use Rattle.lvdc_vote.specs.Bits.{flipped}
use Rattle.lvdc_vote.proofs.BitLaws.{bit_at-flipped}
use Rattle.lvdc_vote.proofs.bits.flipped.Goals as goal

pub returns-clause-value : goal.returns-clause-value
unfolding flipped
returns-clause-value c = search rules

pub returns-clause-bits : goal.returns-clause-bits
unfolding flipped
returns-clause-bits c = λ i. rw (← bit_at-flipped c.args.word c.args.mask i) (search rules)
