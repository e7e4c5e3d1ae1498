use Rattle.std.proofs.Common.{zero, suc, inl, refl}
use Rattle.lvdc_modules.proofs.multiplier.MultiplierStateVote.vote.Goals as goal

pub returns-clause-bits : goal.returns-clause-bits
returns-clause-bits c zero i = c.majority.ensures.bits i
returns-clause-bits c (suc zero) i = c.majority-2.ensures.bits i
returns-clause-bits c (suc (suc zero)) i = c.majority-3.ensures.bits i
returns-clause-bits c (suc (suc (suc zero))) i = c.majority-4.ensures.bits i
returns-clause-bits c (suc (suc (suc (suc zero)))) i = c.majority-5.ensures.bits i
returns-clause-bits c (suc (suc (suc (suc (suc index))))) i = inl (refl, refl)
