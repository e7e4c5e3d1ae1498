use Rattle.std.proofs.Common.{◌≡◌, take}
use Rattle.lvdc_forces.specs.InForce.{faults_at, mark_at}
use Rattle.lvdc_logic.specs.Harmed.{latched_under}
use Rattle.lvdc_logic.specs.Latching.{after_numbers}
use Rattle.lvdc_logic.proofs.triples.Triples.latch_named.Given as goal

-- of the copies passed so far those that are named have latched, and no other
abbrev pub invariant-loop-number : goal.invariant-loop-number
invariant-loop-number l = l.self ≡ after_numbers l.fn.self (mark_at l.force.marks) (take l.number-index l.order) (λ n. latched_under (faults_at l.force.copies n) l.fn.self l.voted n)
