use Rattle.lvdc_machine.proofs.Judging.{known_then}
use Rattle.lvdc_machine.proofs.machine.Machine.is_wrong.Goals as goal

pub returns : goal.returns
returns c =
    let m = c.self.inside in
    rw (← c.self.view_is) (λ step is. c.has.ensures m.script step (known_then m.script m.on_memory.last step m.forces.known c.self.invariant.known is))
