use Rattle.lvdc_memory.proofs.Begun.{made-last}
use Rattle.lvdc_memory.proofs.events.MemoryEvents.put_last_in_force.Goals as goal

pub returns-then-steps-gt0-clause-forced : goal.returns-then-steps-gt0-clause-forced
returns-then-steps-gt0-clause-forced c = λ o t i same h.
    rw (made-last c.args.steps c.if-steps-gt0.true) (c.change.ensures.begun o t i same (rw c.requires.none h))
